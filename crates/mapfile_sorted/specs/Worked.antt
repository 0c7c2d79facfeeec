-- Worked lines of rosters that rise and rosters that do not, as one table, on the file of document 01's bed M. All are
-- computed by the checker (proofs/Computed.antt). M's roster has account 5 with 4 pixels and account 9 with 6; 6 are
-- nobody's.
--     with_roster rs   M's file up to its last tile word, and rs in place of its roster section
--     read_m rs        the number that reading it gives
use Rattle.std.specs.Prelude.{◌≡◌, List, [], ◌∷◌, ◌++◌, ℕ, take, replicate}
use Rattle.refusal.specs.Refusal.{accepted, file_cut_short, trailing_bytes, roster_wrong, roster_unsorted}
use Rattle.mapfile_bytes.specs.Layout.{roster_place}
use Rattle.mapfile_read.specs.Reader.{read_of}
use Rattle.mapfile_laws.specs.Worked.{file_m}

abbrev pub with_roster : List ℕ → List ℕ
with_roster rs = take (roster_place 4) file_m ++ rs

abbrev pub read_m : List ℕ → ℕ
read_m rs = (read_of (with_roster rs) (replicate 5 1)).answer.number

-- entries: nobody's, 5's, an account without tiles, 9's, the first number above all accounts and the highest byte
abbrev pub entry0 : List ℕ
entry0 = 0 ∷ 0 ∷ 0 ∷ 0 ∷ 6 ∷ []

abbrev pub entry5 : List ℕ
entry5 = 5 ∷ 0 ∷ 0 ∷ 0 ∷ 4 ∷ []

abbrev pub entry7 : List ℕ
entry7 = 7 ∷ 0 ∷ 0 ∷ 0 ∷ 0 ∷ []

abbrev pub entry9 : List ℕ
entry9 = 9 ∷ 0 ∷ 0 ∷ 0 ∷ 6 ∷ []

abbrev pub entry64 : List ℕ
entry64 = 64 ∷ 0 ∷ 0 ∷ 0 ∷ 0 ∷ []

abbrev pub entry255 : List ℕ
entry255 = 255 ∷ 0 ∷ 0 ∷ 0 ∷ 0 ∷ []

pub record RosterLines : Type 0 where
  pub rising : read_m (2 ∷ (entry5 ++ entry9)) ≡ accepted
  -- the same entries the other way round, which changes no slot
  pub falling : read_of (with_roster (2 ∷ (entry9 ++ entry5))) (replicate 5 1) ≡ record {
    answer = record { number = roster_unsorted; order = 0; tiles = 0 };
    storage = replicate 5 1;
  }
  -- the same account twice: at once, behind another one, with another one between
  pub twice : read_m (2 ∷ (entry5 ++ entry5)) ≡ roster_unsorted
  pub twice_behind : read_m (3 ∷ (entry5 ++ entry9 ++ entry9)) ≡ roster_unsorted
  pub twice_apart : read_m (3 ∷ (entry5 ++ entry9 ++ entry5)) ≡ roster_unsorted
  -- 54 comes ahead of a later entry's 41 and of 42, but not of its own entry's 41
  pub then_cut : read_m (3 ∷ (entry9 ++ entry5)) ≡ roster_unsorted
  pub then_more : read_m (2 ∷ (entry9 ++ entry5 ++ 0 ∷ [])) ≡ roster_unsorted
  pub cut : read_m (2 ∷ (entry9 ++ take 4 entry5)) ≡ file_cut_short
  pub cut_behind : read_m (3 ∷ (entry5 ++ entry9)) ≡ file_cut_short
  pub cut_count : read_m [] ≡ file_cut_short
  -- where all entries rise, 42 comes ahead of 43; an entry behind those that are counted is not asked
  pub more : read_m (1 ∷ (entry5 ++ entry9)) ≡ trailing_bytes
  pub more_falling : read_m (1 ∷ (entry9 ++ entry5)) ≡ trailing_bytes
  -- a first entry of account 0 has none ahead of it and gives 43; a second one gives 54
  pub nobody : read_m (3 ∷ (entry0 ++ entry5 ++ entry9)) ≡ roster_wrong
  pub nobody_twice : read_m (2 ∷ (entry0 ++ entry0)) ≡ roster_unsorted
  -- rising entries that are not the roster: one more with a total of 0, also above all accounts; one missing; none
  pub extra : read_m (3 ∷ (entry5 ++ entry7 ++ entry9)) ≡ roster_wrong
  pub above : read_m (3 ∷ (entry5 ++ entry9 ++ entry64)) ≡ roster_wrong
  pub highest : read_m (3 ∷ (entry5 ++ entry9 ++ entry255)) ≡ roster_wrong
  pub highest_twice : read_m (4 ∷ (entry5 ++ entry9 ++ entry255 ++ entry255)) ≡ roster_unsorted
  pub missing : read_m (1 ∷ entry9) ≡ roster_wrong
  pub none : read_m (0 ∷ []) ≡ roster_wrong
