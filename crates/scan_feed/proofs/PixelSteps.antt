-- One account of a feed, by what its checks say.
--     check_full                              23 is said of a scan that has all its pixels
--     stepped_full, -account, -slots, -done   23, 24, 25, and none of them
--     stepped_nobody                          none of them, and nothing is put
use mathlib.Core.Path.{◌≡◌, ◌∙◌, refl, sym}
use mathlib.Core.Bool.{Bool, true, false, not}
use mathlib.Core.List.{List}
use Prim.Native.Nat.{ℕ, suc, ◌+◌, ◌^◌, ◌≤◌, ◌<◌}
use native.Mathlib.Decide.{dec_le}
use native.Mathlib.Omega.{arith}
use lib.Dec.{leb, ltb, eqb}
use lib.ListN.{length}
use Rattle.basics.specs.Choice.{if}
use Rattle.basics.proofs.Tests.{Test, test_leb, test_eqb, test_not}
use Rattle.basics.proofs.ChoiceLaws.{if_yes, if_no}
use Rattle.refusal.specs.Refusal.{accepted, scan_full, account_too_large, slots_exceeded}
use Rattle.refusal.specs.Checks.{must}
use Rattle.refusal.proofs.CheckLaws.{must_on, must_off}
use Rattle.tile.specs.Tile.{highest_account}
use Rattle.quadtree.specs.Quadtree.{quadtree}
use Rattle.bed.specs.declared.Kind.{Kind}
use Rattle.bed.specs.Places.{pixel_at}
use Rattle.bed.specs.Bed as bed
use Rattle.scan_gap.specs.Gap.{Fits, Placed, Outcome}
use Rattle.scan_gap.proofs.Pixel.{placed_nobody}
use Rattle.scan_feed.specs.Feeding.{Trails, Stepped}
use Rattle.scan_feed.proofs.NextPlace.{holds_awaits}

-- the test of 25, either way round
over_said : (m l : ℕ) → must (leb l m) slots_exceeded accepted ≡ if (ltb m l) slots_exceeded accepted
over_said m l = elim (dec_le l m) [
  | yes h ↦ must_on _ _ (test_leb l m) h ∙ sym (if_no _ _ (test_leb (suc m) l) (λ g. omega arith))
  | no h ↦ must_off _ _ (test_leb l m) h ∙ sym (if_yes _ _ (test_leb (suc m) l) (omega arith))
]

-- the tests in turn
module _ (m : ℕ) (b : bed.Bed) (a : ℕ) where
  abbrev Full : Type 0
  Full = b.scanned ≡ 4 ^ b.order

  test_going : Test (Full → ⊥) (not (eqb b.scanned (4 ^ b.order)))
  test_going = test_not (test_eqb b.scanned (4 ^ b.order))

  pub check_full : Full → bed.pixel_check m b a ≡ scan_full
  unfolding bed.pixel_check
  check_full e = must_off _ _ test_going (λ g. g e)

  module _ (going : Full → ⊥) where
    check_account : highest_account < a → bed.pixel_check m b a ≡ account_too_large
    unfolding bed.pixel_check
    check_account h = must_on _ _ test_going going ∙ must_off _ _ (test_leb a highest_account) (λ l. omega arith)

    check_slots : a ≤ highest_account → bed.pixel_check m b a ≡ if (ltb m (length (quadtree b.order (bed.put_pixel b a).account))) slots_exceeded accepted
    unfolding bed.pixel_check
    check_slots h = must_on _ _ test_going going ∙ must_on _ _ (test_leb a highest_account) h ∙ over_said m (length (quadtree b.order (bed.put_pixel b a).account))

-- a gap that trails one pixel trails the next
trails_next : (k : Kind) (s : List ℕ) (i b p : ℕ) → Trails k s i b p → Trails k s i b (p + 1)
trails_next k s i b p w e = let l = (w e).1 in ((w e).0, λ h. omega (arith, l h))

-- what 25 says, taken apart
over_no : (b : Bool) → if b slots_exceeded accepted ≡ accepted → b ≡ false
unfolding if
over_no true h = absurd (omega arith)
over_no false h = refl

over_yes : (b : Bool) → (if b slots_exceeded accepted ≡ accepted → ⊥) → b ≡ true
unfolding if
over_yes true h = refl
over_yes false h = absurd (h refl)

module _ (k : Kind) (n p a : ℕ) (s : List ℕ) (i b : ℕ) (fits : Fits s i b) (trails : Trails k s i b p) (within : p ≤ 4 ^ n) where
  stepped_refused : (r : ℕ) → (r ≡ accepted → ⊥) → ((f : ℕ → ℕ) → bed.pixel_check (length s) (bed.bed_of k n p f) a ≡ r) → Stepped k n p a s s i b (record { number = r; front = i; back = b })
  stepped_refused r h e = record { fits = fits; trails = trails_next k s i b p trails; going = λ q. absurd (h q); on = λ f w. record { number = sym (e f); done = λ q. absurd (h q); kept = λ q. refl } }

  pub stepped_full : p ≡ 4 ^ n → Stepped k n p a s s i b (record { number = scan_full; front = i; back = b })
  stepped_full e = stepped_refused scan_full (λ q. omega arith) (λ f. check_full (length s) (bed.bed_of k n p f) a e)

  module _ (going : p ≡ 4 ^ n → ⊥) where
    pub stepped_account : highest_account < a → Stepped k n p a s s i b (record { number = account_too_large; front = i; back = b })
    stepped_account h = stepped_refused account_too_large (λ q. omega arith) (λ f. check_account (length s) (bed.bed_of k n p f) a going h)

    module _ (low : a ≤ highest_account) (t : List ℕ) (r : Outcome) (placed : Placed s t i b (pixel_at k n p) a r) (on : Trails k t r.front r.back (p + 1)) where
      stepped_put : (x : ℕ) → x ≡ if r.full slots_exceeded accepted → Stepped k n p a s t i b (record { number = x; front = r.front; back = r.back })
      unfolding bed.put_pixel
      stepped_put x e = record {
        fits = placed.fits;
        trails = on;
        going = λ c. elim (dec_le (4 ^ n) p) [ yes h ↦ absurd (going (omega arith)) | no h ↦ omega arith ];
        on = λ f w.
            let o = placed.on n f (holds_awaits w (omega (arith, w.within))) in
            record {
              number = e ∙ rw o.full (sym (check_slots (length s) (bed.bed_of k n p f) a going low));
              done = λ c. o.done (over_no r.full (sym e ∙ c));
              kept = λ c. o.kept (over_yes r.full (λ q. c (e ∙ q)));
            };
      }

      pub stepped_slots : r.full ≡ true → Stepped k n p a s t i b (record { number = slots_exceeded; front = r.front; back = r.back })
      unfolding if
      stepped_slots q = stepped_put slots_exceeded (rw q)

      pub stepped_done : r.full ≡ false → Stepped k n p a s t i b (record { number = accepted; front = r.front; back = r.back })
      unfolding if
      stepped_done q = stepped_put accepted (rw q)

    pub stepped_nobody : a ≡ 0 → Stepped k n p a s s i b (record { number = accepted; front = i; back = b })
    stepped_nobody e = stepped_done (omega arith) s _ (placed_nobody s i b (pixel_at k n p) a fits e) (trails_next k s i b p trails) refl
