-- The tests in turn: one that fails leaves no form, and the last one decides.
use mathlib.Core.Path.{◌≡◌, sym, ◌∙◌}
use mathlib.Core.Bool.{true, false}
use Prim.Native.Nat.{ℕ}
use native.Mathlib.Omega.{arith}
use Rattle.mils.proofs.FormLaws.{not_formed, needless, whole_length, formed_last}
use Rattle.mils.proofs.well_formed.Goals as goal

pub returns-then-n-lt-SHORTEST : goal.returns-then-n-lt-SHORTEST
returns-then-n-lt-SHORTEST c = not_formed c.args.text.now (λ f. omega (arith, f.short))

pub returns-then-n-gt-LONGEST : goal.returns-then-n-gt-LONGEST
returns-then-n-gt-LONGEST c = not_formed c.args.text.now (λ f. omega (arith, f.long))

pub returns-then-text-at-ne-POINT : goal.returns-then-text-at-ne-POINT
returns-then-text-at-ne-POINT c = not_formed c.args.text.now (λ f. c.if-text-at-ne-POINT.true f.pointed)

pub returns-then-needless_zero : goal.returns-then-needless_zero
returns-then-needless_zero c =
    let text = c.args.text.now in
    not_formed text (λ f. f.needed (needless text (sym c.needless_zero.ensures ∙ c.if-needless_zero.true)))

pub returns-then-not-digits_only : goal.returns-then-not-digits_only
returns-then-not-digits_only c =
    not_formed c.args.text.now (λ f.
    let e : true ≡ false = sym f.whole ∙ (sym c.digits_only.ensures ∙ c.if-not-digits_only.true) in
    let z : ◌≡◌ {A = ℕ} 0 1 = cc in omega arith)

pub returns : goal.returns
returns c =
    let whole = c in
    let zero = whole in
    let read = zero in
    let text = read.args.text.now in
    c.digits_only-2.ensures
    ∙ formed_last text (omega arith) (omega arith) read.if-text-at-ne-POINT.false (sym zero.needless_zero.ensures ∙ whole.if-needless_zero.false)
    (sym whole.digits_only.ensures ∙ c.if-not-digits_only.false)

pub slice_bounds-digits_only-end : goal.slice_bounds-digits_only-end
slice_bounds-digits_only-end c = sym (whole_length c.args.text.now (omega arith))
