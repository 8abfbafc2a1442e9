-- Numbers below twice the modulus, by their remainders.
use Rattle.std.proofs.Common.{◌≡◌, ℕ, ◌+◌, ◌*◌, ◌%◌, ◌<◌, ap, ◌∙◌, mod-lt, arith, lt-ltb}
use native.Mathlib.Nat.{mod_self, mod-mod, add-mod, add-mod_right}
use Rattle.integers.proofs.Residues.{sum_of_remainders}
use Rattle.scheme.specs.Meaning.{Zero, Sum, Opposite}
use Rattle.rerandomised.specs.Twofold.{twofold}

pub zero_number : (n : ℕ) → 0 < n → Zero (twofold n) n
zero_number n z = record { wf = lt-ltb n (2 * n) (omega arith); reads = λ v. mod_self n }

pub sum_number : (n a b r : ℕ) → 0 < n → r ≡ (a + b) % n → Sum (twofold n) a b r
sum_number n a b r z e =
    let l : r < n = rw e (mod-lt (a + b) z) in
    record { wf = lt-ltb r (2 * n) (omega arith); reads = λ v. ap (λ x. x % n) e ∙ mod-mod (a + b) n ∙ add-mod a b n }

pub sum_number_above : (n a b r : ℕ) → 0 < n → r ≡ (a + b) % n → Sum (twofold n) a b (r + n)
sum_number_above n a b r z e =
    let l : r < n = rw e (mod-lt (a + b) z) in
    record { wf = lt-ltb (r + n) (2 * n) (omega arith); reads = λ v. add-mod_right r n ∙ ap (λ x. x % n) e ∙ mod-mod (a + b) n ∙ add-mod a b n }

pub opposite_number : (n a r : ℕ) → r < n → (a + r) % n ≡ 0 → Opposite (twofold n) a r
opposite_number n a r l e = record { wf = lt-ltb r (2 * n) (omega arith); cancels = λ v. sum_of_remainders a r n ∙ e }
