use Rattle.std.proofs.Common.{zero, suc, [], ◌∷◌, ◌≡◌, ℕ, ◌+◌, ◌*◌, ◌/◌, ◌^◌, ◌≤◌, ◌<◌, List, length, get_or, nat_abs, ℤ, pos, Some, None, Option, IfSome, IsSome, MatchOption, ◌∙◌, ap, sym, refl, subst, arith, rules}
use Rattle.std.specs.List.{All, enumerate_from}
use Rattle.std.proofs.lemmas.Iterator.{YieldsList-from_slice}
use Rattle.std.proofs.lemmas.Iterator.Consumers.{YieldsList-from_enumerate}
use Rattle.std.proofs.lemmas.List.FromFn.{length-enumerate_from, get_or-enumerate_from}
use Rattle.integers.specs.declared.Complex.{Complex}
use Rattle.integers.specs.Complex.{◌⊕◌, ◌⊗◌, real}
use Rattle.circle.specs.Fine.{fine}
use Rattle.circle.proofs.Fine.{fine_sizes}
use Rattle.lines.specs.Lines.{sum_below, fine_line_of}
use Rattle.report.specs.Samples.{samples_of}
use Rattle.report.proofs.Sums.{one_more, grown_re, grown_im}
use Rattle.report.proofs.Folding.{try_folded}
use Rattle.report.proofs.fine.fine_line.Goals as goal

-- what the sum of the first n products is, and how large
record Summed (samples : List ℤ) (k n : ℕ) (sum : Complex) : Type 0 where
  pub value : sum ≡ sum_below n (λ n. fine (n * k * (256 / length samples)) ⊗ samples_of samples n)
  pub re : All (λ x. nat_abs x ≤ 2 ^ 24) samples → nat_abs sum.re ≤ 3 * 2 ^ 53 * n
  pub im : All (λ x. nat_abs x ≤ 2 ^ 24) samples → nat_abs sum.im ≤ 3 * 2 ^ 53 * n

none_summed : (samples : List ℤ) (k : ℕ) → Summed samples k 0 (record { re = pos 0; im = pos 0 })
unfolding sum_below
none_summed samples k = record { value = refl; re = λ h. omega arith; im = λ h. omega arith }

any_default : (xs : List ℤ) (n : ℕ) (d e : ℤ) → n < length xs → get_or xs n d ≡ get_or xs n e
any_default [] n d e l = absurd (omega arith)
any_default (x ∷ xs) zero d e l = refl
any_default (x ∷ xs) (suc n) d e l = any_default xs n d e (omega arith)

-- the item at place n is n and sample n
item : (samples : List ℤ) (n : ℕ) (p : ℕ × ℤ) → n < length (enumerate_from 0 samples) → p ≡ get_or (enumerate_from 0 samples) n p → (n < length samples) × (p.0 ≡ n) × (p.1 ≡ get_or samples n (pos 0))
item samples n p l e =
    let small : n < length samples = omega (arith, length-enumerate_from 0 samples) in
    let is = e ∙ get_or-enumerate_from 0 samples n p small in
    let place : p.0 ≡ 0 + n = ap (λ (q : ℕ × ℤ). q.0) is in
    (small, omega arith, ap (λ (q : ℕ × ℤ). q.1) is ∙ any_default samples n p.1 (pos 0) small)

-- one more product
more : (samples : List ℤ) (k n : ℕ) (a : Complex) (p : ℕ × ℤ) (r : Option Complex) → IfSome r (λ y. y ≡ a ⊕ fine (p.0 * k * (256 / length samples)) ⊗ real p.1) → n < length (enumerate_from 0 samples) → p ≡ get_or (enumerate_from 0 samples) n p → Summed samples k n a → IfSome r (Summed samples k (n + 1))
more samples k n a p None value l e before = tt
more samples k n a p (Some y) value l e before =
    let at = item samples n p l e in
    let here : y ≡ a ⊕ fine (n * k * (256 / length samples)) ⊗ samples_of samples n = rw (at.1, at.2) at value in
    let size = fine_sizes (n * k * (256 / length samples)) in
    let x = get_or samples n (pos 0) in
    record {
      value = one_more _ n a y before.value here;
      re = λ h. grown_re a (fine (n * k * (256 / length samples))) y x n size (h n (pos 0) at.0) (before.re h) here;
      im = λ h. grown_im a (fine (n * k * (256 / length samples))) y x n size (h n (pos 0) at.0) (before.im h) here;
    }

-- a sum of fewer than 256 products of small samples leaves room for one more
room : (samples : List ℤ) (k n : ℕ) (a : Complex) (p : ℕ × ℤ) → n < length (enumerate_from 0 samples) → p ≡ get_or (enumerate_from 0 samples) n p → Summed samples k n a → length samples ≤ 256 → All (λ x. nat_abs x ≤ 2 ^ 24) samples → (nat_abs p.1 ≤ 2 ^ 24) × (nat_abs a.re ≤ 3 * 2 ^ 61) × (nat_abs a.im ≤ 3 * 2 ^ 61)
room samples k n a p l e before few h =
    let at = item samples n p l e in
    let re : nat_abs a.re ≤ 3 * 2 ^ 53 * n = before.re h in
    let im : nat_abs a.im ≤ 3 * 2 ^ 53 * n = before.im h in
    let small : n < length samples = at.0 in
    (subst (λ x. nat_abs x ≤ 2 ^ 24) (sym at.2) (h n (pos 0) small), omega arith, omega arith)

value_of : (samples : List ℤ) (k : ℕ) (P : Type 0) (r : Option Complex) → MatchOption r P (Summed samples k (length (enumerate_from 0 samples))) → IfSome r (λ x. x ≡ fine_line_of (length samples) (samples_of samples) k)
unfolding fine_line_of
value_of samples k P None m = tt
value_of samples k P (Some x) m = rw (length-enumerate_from 0 samples) at m.value

some_of : (P : Type 0) (Q : Complex → Type 0) (r : Option Complex) → (P → IsSome {T = Complex} None) → MatchOption r P Q → IsSome r
some_of P Q None never m = never m
some_of P Q (Some x) never m = refl

pub returns-clause-value : goal.returns-clause-value
returns-clause-value c =
    let read = try_folded (λ p. (p.0, p.1.now)) _ (Summed c.args.samples.now c.args.k) _ (enumerate_from 0 c.args.samples.now) _ (λ n a x r q call.
    let value : IfSome r (λ y. y ≡ a ⊕ fine (x.0 * c.args.k * (256 / length c.args.samples.now)) ⊗ real x.1.now) = search rules in
    ((search rules), λ at before. more c.args.samples.now c.args.k n a (x.0, x.1.now) r value at.0 at.1 before)) _ _ _ c.try_fold.result (none_summed c.args.samples.now c.args.k) c.try_fold.ensures.ran (YieldsList-from_enumerate (YieldsList-from_slice c.args.samples.now (cc)) (cc)) in
    value_of c.args.samples.now c.args.k _ c.try_fold.result read

pub returns-clause-room : goal.returns-clause-room
returns-clause-room c few h =
    let read = try_folded (λ p. (p.0, p.1.now)) _ (Summed c.args.samples.now c.args.k) _ (enumerate_from 0 c.args.samples.now) _ (λ n a x r q call.
    let value : IfSome r (λ y. y ≡ a ⊕ fine (x.0 * c.args.k * (256 / length c.args.samples.now)) ⊗ real x.1.now) = search rules in
    ((search rules), λ at before. more c.args.samples.now c.args.k n a (x.0, x.1.now) r value at.0 at.1 before)) _ _ _ c.try_fold.result (none_summed c.args.samples.now c.args.k) c.try_fold.ensures.ran (YieldsList-from_enumerate (YieldsList-from_slice c.args.samples.now (cc)) (cc)) in
    some_of _ _ c.try_fold.result (λ (n, a, x, q, at, before, call).
    let fits = room c.args.samples.now c.args.k n a (x.0, x.1.now) at.0 at.1 before few h in
    let found : nat_abs x.1.now ≤ 2 ^ 24 → nat_abs a.re ≤ 3 * 2 ^ 61 → nat_abs a.im ≤ 3 * 2 ^ 61 → IsSome {T = Complex} None = search rules in
    found fits.0 fits.1 fits.2) read
