-- Laws of bytes put into a lent buffer.
--     put_at_none, put_at_then   no bytes leave the buffer as it is; bytes put behind bytes
--     puts_none, puts_then       the same of a writer
--     puts_next                  one more byte of a string
use mathlib.Core.Path.{◌≡◌, refl, ap, sym, ◌∙◌}
use mathlib.Core.List.{List, [], ◌∷◌, ◌++◌, append_assoc}
use Prim.Native.Nat.{ℕ, ◌+◌, ◌-◌, ◌≤◌, ◌<◌}
use native.Mathlib.Omega.{arith}
use native.Mathlib.Numerals.{add-one}
use lib.ListN.{length, take, drop, get_or, length-append, take-append-drop}
use lib.Seq.{length-take-le, take_at, drop_at, drop-drop, take-suc}
use Rattle.text.specs.declared.Writer.{Writer}
use Rattle.text.specs.PutAt.{PutAt}
use Rattle.text.specs.Puts.{Puts}

pub put_at_none : (at : ℕ) (old : List ℕ) → PutAt [] at old at old
put_at_none at old = record { stop = omega arith; size = refl; put = λ h. sym (take-append-drop at old) }

module _ {xs ys : List ℕ} {at : ℕ} {old : List ℕ} {mid : ℕ} {half : List ℕ} {end : ℕ} {new : List ℕ} where
  pub put_at_then : PutAt xs at old mid half → PutAt ys mid half end new → PutAt (xs ++ ys) at old end new
  put_at_then v w = record { stop = stops; size = w.size ∙ v.size; put = puts }
    where
      stops : end ≡ at + length (xs ++ ys)
      stops = omega (arith, length-append xs ys, v.stop, w.stop)

      puts : end ≤ length old → new ≡ take at old ++ ((xs ++ ys) ++ drop end old)
      puts h =
          let e : half ≡ (take at old ++ xs) ++ drop mid old = v.put (omega (arith, w.stop)) ∙ sym (append_assoc (take at old) xs (drop mid old)) in
          let l : length (take at old ++ xs) ≡ mid = omega (arith, length-append (take at old) xs, length-take-le at old (omega (arith, v.stop, w.stop)), v.stop) in
          let a : take mid half ≡ take at old ++ xs = rw e (take_at (take at old ++ xs) (drop mid old) mid l) in
          let m : mid + (end - mid) ≡ end = omega (arith, w.stop) in
          let b : drop end half ≡ drop end old =
          sym (rw m at (drop-drop (end - mid) mid half)) ∙ rw e (ap (drop (end - mid)) (drop_at (take at old ++ xs) (drop mid old) mid l)) ∙ rw m at (drop-drop (end - mid) mid old) in
          w.put (omega (arith, v.size)) ∙ rw (a, b) (append_assoc (take at old) xs (ys ++ drop end old)) ∙ ap (λ (l : List ℕ). take at old ++ l) (sym (append_assoc xs ys (drop end old)))

pub puts_none : (writer : Writer) → Puts [] writer writer
puts_none writer = record { same_buffer = refl; put = put_at_none writer.at writer.out.now }

pub puts_then : {xs ys : List ℕ} {old half new : Writer} → Puts xs old half → Puts ys half new → Puts (xs ++ ys) old new
puts_then v w = record { same_buffer = w.same_buffer ∙ v.same_buffer; put = put_at_then v.put w.put }

pub puts_next : (bytes : List ℕ) (i : ℕ) {old half new : Writer} → i < length bytes → Puts (take i bytes) old half → Puts (get_or bytes i 0 ∷ []) half new → Puts (take (i + 1) bytes) old new
puts_next bytes i h v w = rw (add-one i, take-suc bytes i 0 h) (puts_then v w)
