-- Inner: what one pass over the words keeps of the tiles that it has seen, and how far a list is known to pass.
-- Definitions only. Tiles seen are given last first.
--     Rises seen               no tile seen starts before the one ahead of it ends
--     Knows a seen             `a` tells of the tiles seen, which rise: where the last one ends, and the words of the
--                              last three, which are 0 where there are fewer
--     Judges n seen w r        what a step has to say of the word w behind the tiles seen: its refusal, or what is
--                              ahead of the next word
--     Going n ws x i a         x is what the words from i on come to, behind tiles of which `a` tells
--     seen_at slots i           the tiles of the first i slots
--     FrontPasses n slots i    the first i words break no check
--     head                     how many words are in a list's head, which is checked in place
--     Begun n t slots r        what r says of checks 1 and 2 and of the head: a refusal is the list's. Where there is
--                              none, order and count are good; a list that ends with its head is accepted; of any other
--                              the head passes, and the words decide
-- Not here: what is refused (`ListCheck`), which does not speak of these.
use Rattle.std.specs.Prelude.{◌≡◌, Result, IfOk, List, [], ◌∷◌, ℕ, zero, suc, ◌≤◌, ◌<◌, length, take, drop, get_or}
use Rattle.refusal.specs.declared.Refusal.{Refusal}
use Rattle.refusal.specs.Refusal.{accepted}
use Rattle.refusal.specs.Refused.{said}
use Rattle.tile.specs.declared.Tile.{Tile}
use Rattle.tile.specs.Tile.{tile_of, highest_order}
use Rattle.list_check.specs.declared.Ahead.{Ahead}
use Rattle.list_check.specs.ListCheck.{ended, word_check, words_check, list_check}

abbrev pub Rises : List Tile → Type 0
Rises [] = Unit {0}
Rises (t ∷ seen) = (ended seen ≤ t.corner) × Rises seen

pub record Knows (a : Ahead) (seen : List Tile) : Type 0 where
  pub stop : a.stop ≡ ended seen
  pub first : tile_of a.first ≡ get_or seen 2 (tile_of 0)
  pub second : tile_of a.second ≡ get_or seen 1 (tile_of 0)
  pub third : tile_of a.third ≡ get_or seen 0 (tile_of 0)
  pub rises : Rises seen

pub record Judges (n : ℕ) (seen : List Tile) (w : ℕ) (r : Result Ahead Refusal) : Type 0 where
  pub refusal : said r ≡ word_check n seen w accepted
  pub ahead : IfOk r (λ a. Knows a (tile_of w ∷ seen))

pub record Going (n : ℕ) (ws : List ℕ) (x i : ℕ) (a : Ahead) : Type 0 where
  pub seen : List Tile
  pub knows : Knows a seen
  pub rest : x ≡ words_check n seen (drop i ws)

unfoldable pub seen_at : List ℕ → ℕ → List Tile
seen_at slots zero = []
seen_at slots (suc i) = tile_of (get_or slots i 0) ∷ seen_at slots i

abbrev pub FrontPasses : ℕ → List ℕ → ℕ → Type 0
FrontPasses n slots i = (j : ℕ) → j < i → word_check n (seen_at slots j) (get_or slots j 0) accepted ≡ accepted

abbrev pub head : ℕ
head = 8

pub record Begun (n t : ℕ) (slots : List ℕ) (r : ℕ) : Type 0 where
  pub refused : (r ≡ accepted → ⊥) → r ≡ list_check n t slots
  pub whole : r ≡ accepted → t ≤ head → r ≡ list_check n t slots
  pub order : r ≡ accepted → n ≤ highest_order
  pub count : r ≡ accepted → length (take t slots) ≡ t
  pub front : r ≡ accepted → head ≤ t → FrontPasses n (take t slots) head
  pub rest : r ≡ accepted → words_check n [] (take t slots) ≡ list_check n t slots
