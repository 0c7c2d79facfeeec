-- The entries of a section, and tests of them.
--     rise_room, rise_rising   entries that are accepted are there, and their accounts rise
--     rise_other               they are accepted where the number is neither 41 nor 54
--     right_some, right_none   an entry whose account has pixels is judged by their number, else refused
--     entries_behind           those that are there are the entries behind the count
--     rise_whole               of the entries that are there 54 is told, and 41 behind them
--     rises_by                 entries whose accounts rise, by the list of them
--     rises_on, -stop, -end    the entries from i on
--     sum_pixels               the pixels that the entries say they have are a sum
--     all_right                each entry has the pixels of its account, of which there are some
use mathlib.Core.Path.{◌≡◌, refl, ap, sym, ◌∙◌}
use mathlib.Core.Bool.{Bool, true, false, ◌&&◌, not}
use mathlib.Core.List.{List, [], ◌∷◌, map}
use mathlib.Core.Logic.{◌↔◌}
use Prim.Native.Nat.{ℕ, zero, suc, ◌+◌, ◌*◌, ◌≤◌, ◌<◌, min}
use native.Mathlib.Omega.{arith}
use native.Mathlib.Numerals.{add-one}
use lib.Dec.{leb, eqb}
use lib.ListN.{length, take, drop, get_or}
use lib.Seq.{get_or-drop, get_or-take, drop-drop, drop-cons, drop-length}
use borrow.Author.Tests.{lt-leb, le-leb, lt-ltb, leb-true}
use Rattle.std.specs.Bool.{IsTrue}
use Rattle.std.specs.List.{All, fold, sum_by}
use Rattle.std.specs.Simd.{first_chunks}
use Rattle.basics.proofs.Tests.{test_leb, test_alike}
use Rattle.refusal.specs.Refusal.{accepted, file_cut_short, roster_unsorted}
use Rattle.refusal.specs.Checks.{must}
use Rattle.refusal.proofs.CheckLaws.{must_pass, must_inv, must_other}
use Rattle.tile.specs.declared.Tile.{Tile}
use Rattle.mapfile_bytes.specs.Items.{word_at}
use Rattle.mapfile_bytes.proofs.ItemsLaws.{word_at_drop, word_at_take}
use Rattle.mapfile_roster.specs.Roster.{covered, entry_in}
use Rattle.mapfile_roster.specs.declared.Entry.{Entry}
use Rattle.mapfile_roster.proofs.RosterLaws.{ByAccount, end, link}
use Rattle.mapfile_entries.specs.RosterCheck.{entries_at, entries_check}
use Rattle.mapfile_entries.specs.Pixels.{pixels_in, rises, entry_right, entries_right}

pub rise_room : (q least : ℕ) (rs : List ℕ) (p : ℕ) → p ≤ length rs → entries_check q least rs p ≡ accepted → p + 5 * q ≤ length rs
unfolding entries_check
rise_room zero least rs p h e = omega arith
rise_room (suc q) least rs p h e =
    let a = must_inv (test_leb (p + 5) (length rs)) (omega arith) e in
    let b = must_inv (test_leb least (get_or rs p 0)) (omega arith) a.1 in
    omega (arith, rise_room q (suc (get_or rs p 0)) rs (p + 5) a.0 b.1)

pub rise_rising : (q least : ℕ) (rs : List ℕ) (p : ℕ) → entries_check q least rs p ≡ accepted → ByAccount least (entries_at q rs p)
unfolding entries_check entries_at
rise_rising zero least rs p e = end
rise_rising (suc q) least rs p e =
    let a = must_inv (test_leb (p + 5) (length rs)) (omega arith) e in
    let b = must_inv (test_leb least (get_or rs p 0)) (omega arith) a.1 in
    link b.0 (rise_rising q (suc (get_or rs p 0)) rs (p + 5) b.1)

pub rise_other : (q least : ℕ) (rs : List ℕ) (p : ℕ) {x : ℕ} → (file_cut_short ≡ x → ⊥) → (roster_unsorted ≡ x → ⊥) → entries_check q least rs p ≡ x → entries_check q least rs p ≡ accepted
unfolding entries_check
rise_other zero least rs p f g e = refl
rise_other (suc q) least rs p f g e =
    let a = must_other (test_leb (p + 5) (length rs)) f e in
    let b = must_other (test_leb least (get_or rs p 0)) g a.1 in
    must_pass file_cut_short (test_leb (p + 5) (length rs)) a.0 (must_pass roster_unsorted (test_leb least (get_or rs p 0)) b.0 (rise_other q (suc (get_or rs p 0)) rs (p + 5) f g b.1))

pub right_some : (ts : List Tile) (e : Entry) (x : ℕ) → x ≡ covered e.account ts → (x ≡ 0 → ⊥) → eqb e.pixels x ≡ entry_right ts e
unfolding entry_right
right_some ts e x ex h = sym (rw (← ex, lt-ltb 0 x (omega arith)))

pub right_none : (ts : List Tile) (e : Entry) (x : ℕ) → x ≡ covered e.account ts → x ≡ 0 → not (eqb x 0) ≡ entry_right ts e
unfolding entry_right
right_none ts e x ex h = sym (rw (← ex, h))

entries_at_drop : (n q : ℕ) (rs : List ℕ) (p : ℕ) → entries_at q (drop n rs) p ≡ entries_at q rs (n + p)
unfolding entries_at
entries_at_drop n zero rs p = refl
entries_at_drop n (suc q) rs p =
    let w : word_at (drop n rs) (p + 1) ≡ word_at rs (n + p + 1) =
    word_at_drop (drop n rs) (p + 1) ∙ ap (λ (xs : List ℕ). word_at xs 0) (drop-drop (p + 1) n rs) ∙ sym (word_at_drop rs (n + (p + 1))) ∙ ap (word_at rs) (omega arith) in
    let e : n + (p + 5) ≡ n + p + 5 = omega arith in
    rw (get_or-drop n rs p 0, w, entries_at_drop n q rs (p + 5), e)

entries_in : (q : ℕ) (rs : List ℕ) → map entry_in (first_chunks 5 q rs) ≡ entries_at q rs 0
unfolding entries_at
entries_in zero rs = refl
entries_in (suc q) rs = rw (get_or-take 5 rs 0 0 (omega arith), word_at_take 5 rs 1 (omega arith), entries_in q (drop 5 rs), entries_at_drop 5 q rs 0)

take_chunks : (m k : ℕ) (rs : List ℕ) → m ≤ k → take m (first_chunks 5 k rs) ≡ first_chunks 5 m rs
take_chunks zero k rs h = refl
take_chunks (suc m) zero rs h = absurd (omega arith)
take_chunks (suc m) (suc k) rs h = ap (λ (cs : List (List ℕ)). take 5 rs ∷ cs) (take_chunks m k (drop 5 rs) (omega arith))

pub entries_behind : (m k q : ℕ) (es : List ℕ) → m ≤ k → map entry_in (take m (first_chunks 5 k es)) ≡ entries_at m (q ∷ es) 1
entries_behind m k q es h = ap (λ (cs : List (List ℕ)). map entry_in cs) (take_chunks m k es h) ∙ entries_in m es ∙ entries_at_drop 1 m (q ∷ es) 0

must_and : (b c : Bool) (r x : ℕ) → must b r (must c r x) ≡ must (b && c) r x
unfolding must
must_and true c r x = refl
must_and false c r x = refl

leb_suc : (q k : ℕ) → leb (suc q) (suc k) ≡ leb q k
leb_suc q k = test_alike (test_leb (suc q) (suc k)) (test_leb q k) (λ h. omega arith) (λ h. omega arith)

pub rise_whole : (q k least : ℕ) (rs : List ℕ) (p : ℕ) → p + 5 * k ≤ length rs → length rs < p + 5 * k + 5 →
    entries_check q least rs p ≡ must (rises least (entries_at (min q k) rs p)) roster_unsorted (must (leb q k) file_cut_short accepted)
unfolding entries_check entries_at rises must
rise_whole zero k least rs p h l = let z : min zero k ≡ 0 = omega arith in rw (z, le-leb 0 k (omega arith)) refl
rise_whole (suc q) zero least rs p h l = let z : min (suc q) zero ≡ 0 = omega arith in rw (z, lt-leb (p + 5) (length rs) (omega arith), lt-leb (suc q) 0 (omega arith)) refl
rise_whole (suc q) (suc k) least rs p h l =
    let z : min (suc q) (suc k) ≡ suc (min q k) = omega arith in
    let a : ℕ = get_or rs p 0 in
    rw (z, le-leb (p + 5) (length rs) (omega arith), rise_whole q k (suc a) rs (p + 5) (omega arith) (omega arith), leb_suc q k)
    (must_and (leb least a) (rises (suc a) (entries_at (min q k) rs (p + 5))) roster_unsorted (must (leb q k) file_cut_short accepted))

no_way : {A : Type 0} → false ≡ true → A
no_way e = let z : ◌≡◌ {A = ℕ} 0 1 = cc in absurd (omega arith)

and_true : (b : Bool) {c : Bool} → (b && c) ≡ true → (b ≡ true) × (c ≡ true)
and_true true e = (refl, e)
and_true false e = no_way e

pub rises_by : (least : ℕ) (es : List Entry) → rises least es ≡ true → ByAccount least es
unfolding rises
rises_by least [] h = end
rises_by least (e ∷ es) h = let p = and_true (leb least e.account) h in link (leb-true _ _ p.0) (rises_by (suc e.account) es p.1)

module _ (bs : List (List ℕ)) (i least : ℕ) {w : Bool} (e : w ≡ rises least (map entry_in (drop i bs))) where
  pub rises_end : i ≡ length bs → true ≡ w
  unfolding rises
  rises_end h = let d : drop i bs ≡ [] = rw h (drop-length bs) in sym (e ∙ rw d)

  module _ (h : i < length bs) (a : ℕ) (ea : a ≡ (entry_in (get_or bs i [])).account) where
    turn : w ≡ (leb least a && rises (a + 1) (map entry_in (drop (i + 1) bs)))
    unfolding rises
    turn = e ∙ rw (drop-cons bs i [] h, ← ea, add-one a, add-one i)

    pub rises_stop : a < least → false ≡ w
    rises_stop l = sym (turn ∙ rw (lt-leb least a l))

    pub rises_on : least ≤ a → w ≡ rises (a + 1) (map entry_in (drop (i + 1) bs))
    rises_on l = turn ∙ rw (le-leb least a l)

sum_on : (a : ℕ) (bs : List (List ℕ)) → fold (λ a e. a + (entry_in e).pixels) a bs ≡ a + pixels_in (map entry_in bs)
unfolding pixels_in
sum_on a [] = omega arith
sum_on a (b ∷ bs) = omega (arith, sum_on (a + word_at b 1) bs)

pub sum_pixels : (bs : List (List ℕ)) → sum_by (λ e. (entry_in e).pixels) bs ≡ pixels_in (map entry_in bs)
sum_pixels bs = omega (arith, sum_on 0 bs)

module _ (ts : List Tile) where
  right_all : (bs : List (List ℕ)) → All (λ e. IsTrue (entry_right ts (entry_in e))) bs → entries_right ts (map entry_in bs) ≡ true
  unfolding entries_right
  right_all [] h = refl
  right_all (b ∷ bs) h = rw (h 0 b (omega arith)) (right_all bs (λ k d m. h (suc k) d (omega arith)))

  all_of : (bs : List (List ℕ)) → entries_right ts (map entry_in bs) ≡ true → All (λ e. IsTrue (entry_right ts (entry_in e))) bs
  unfolding entries_right
  all_of [] e k d m = absurd (omega arith)
  all_of (b ∷ bs) e zero d m = (and_true (entry_right ts (entry_in b)) e).0
  all_of (b ∷ bs) e (suc k) d m = all_of bs (and_true (entry_right ts (entry_in b)) e).1 k d (omega arith)

  alike : (b c : Bool) → (b ≡ true → c ≡ true) → (c ≡ true → b ≡ true) → b ≡ c
  alike true c f g = sym (f refl)
  alike false true f g = g refl
  alike false false f g = refl

  pub all_right : (bs : List (List ℕ)) (r : Bool) → IsTrue r ↔ All (λ e. IsTrue (entry_right ts (entry_in e))) bs → r ≡ entries_right ts (map entry_in bs)
  all_right bs r h = alike r _ (λ e. right_all bs (h.0 e)) (λ e. h.1 (all_of bs e))
