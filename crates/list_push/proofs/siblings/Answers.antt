-- Each word is compared with the word of the sibling that it must be.
use mathlib.Core.Path.{◌∙◌, sym}
use Rattle.std.proofs.lemmas.Bool.{eqb-true, eq-eqb}
use Rattle.list_push.proofs.SiblingWords.{true_false, three_not, three_last}
use Rattle.quadtree.proofs.Alignment.{area_pos}
use native.Mathlib.Omega.{arith}
use Rattle.list_push.proofs.siblings.Goals as goal
use Rattle.list_push.proofs.siblings.Goals.{then-slots-top, else-slots-top}

pub word_ahead-requires : goal.word_ahead-requires
word_ahead-requires c =
    let p = c.requires in
    (omega (arith, p.room), omega (arith, p.inside, area_pos c.args.last.size), p.few, p.low)

pub word_ahead-requires-then-slots-top : goal.word_ahead-requires-then-slots-top
word_ahead-requires-then-slots-top c =
    let p = c.requires in
    (omega (arith, p.room), omega (arith, p.inside, area_pos c.args.last.size), p.few, p.low)

pub word_ahead-requires-then-slots-top-2 : goal.word_ahead-requires-then-slots-top-2
word_ahead-requires-then-slots-top-2 c =
    let p = c.requires in
    (omega (arith, p.room), omega (arith, p.inside, area_pos c.args.last.size), p.few, p.low)

pub returns-then-slots-top-2 : goal.returns-then-slots-top-2
returns-then-slots-top-2 c = elim c.if-slots-top.branch [
  | then-slots-top w ↦ three_last c.args.last c.requires _ (w.if-slots-top.true ∙ c.word_ahead.ensures) (eqb-true _ _ (sym w.value-is ∙ c.if-slots-top-2.true) ∙ w.word_ahead-then-slots-top.ensures) c.word_ahead-then-slots-top-2.ensures
  | else-slots-top w ↦ absurd (w.if-slots-top.false (eqb-true _ _ (sym w.value-is ∙ c.if-slots-top-2.true)))
]

pub returns-else-slots-top-2 : goal.returns-else-slots-top-2
returns-else-slots-top-2 c = three_not c.args.last c.requires _ c.if-slots-top-2.false (λ q. elim c.if-slots-top.branch [
  | then-slots-top w ↦ true_false (sym (eq-eqb _ _ (q.1 ∙ sym w.word_ahead-then-slots-top.ensures)) ∙ sym w.value-is ∙ c.if-slots-top-2.false)
  | else-slots-top w ↦ w.if-slots-top.false (q.0 ∙ sym c.word_ahead.ensures)
])
