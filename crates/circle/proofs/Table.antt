-- Tests of a function's values that antt computes on a list of them, carried to each value.
use Rattle.std.proofs.Common.{◌≡◌, ℕ, zero, suc, ◌+◌, ◌<◌, Bool, true, false, ◌&&◌, List, [], ◌∷◌, get_or, map, sym, ap, ◌∙◌, le_of_suc-le-suc, not-suc-le-zero, add-zero, zero-add, arith}
use Rattle.std.specs.List.{list_all, range_with_len}
use Rattle.std.proofs.lemmas.Bool.{and_parts}
use Rattle.std.proofs.lemmas.List.FromFn.{get_or-map-range_with_len, length-map-range_with_len}
use Rattle.std.proofs.lemmas.List.Sums.{AllPass-from_list_all}
use borrow.Author.Tests.{clash}

-- the values of g at i, i + 1, .., n of them
abbrev pub values : {A : Type 0} → (ℕ → A) → ℕ → ℕ → List A
values g i n = map g (range_with_len i n)

-- a test that passes at each of the first n values passes at each number below n
pub every_at : {A : Type 0} (f : A → Bool) (g : ℕ → A) (n : ℕ) → list_all f (values g 0 n) ≡ true → (k : ℕ) → k < n → f (g k) ≡ true
every_at f g n t k h =
    let e : get_or (values g 0 n) k (g k) ≡ g k = get_or-map-range_with_len g 0 n k k (g k) h (zero-add k) in
    ap f (sym e) ∙ AllPass-from_list_all f (values g 0 n) t k (g k) (rw (length-map-range_with_len g 0 n) h)

-- the test passes at each pair of the two lists, place by place, as far as the first goes
abbrev pub row : {A : Type 0} → (A → A → Bool) → List A → List A → Bool
row f [] zs = true
row f (y ∷ ys) [] = false
row f (y ∷ ys) (z ∷ zs) = f y z && row f ys zs

row_from : {A : Type 0} (f : A → A → Bool) (g : ℕ → A) (i m j n : ℕ) → row f (values g i m) (values g j n) ≡ true → (k : ℕ) → k < m → f (g (i + k)) (g (j + k)) ≡ true
row_from f g i zero j n t k h = absurd (not-suc-le-zero h)
row_from f g i (suc m) j zero t k h = absurd (clash t)
row_from f g i (suc m) j (suc n) t zero h = rw (add-zero i, add-zero j) (and_parts _ _ t).0
row_from f g i (suc m) j (suc n) t (suc k) h =
    let p : i + suc k ≡ i + 1 + k = omega arith in
    let q : j + suc k ≡ j + 1 + k = omega arith in
    rw (p, q) (row_from f g (i + 1) m (j + 1) n (and_parts _ _ t).1 k (le_of_suc-le-suc h))

-- the test passes at each x of the first list, each y of the second, and z of the third at the sum of their places
abbrev pub grid : {A : Type 0} → (A → A → A → Bool) → List A → List A → List A → Bool
grid f [] ys zs = true
grid f (x ∷ xs) ys [] = false
grid f (x ∷ xs) ys (z ∷ zs) = row (f x) ys (z ∷ zs) && grid f xs ys zs

grid_from : {A : Type 0} (f : A → A → A → Bool) (g : ℕ → A) (ys : List A) (i m j n : ℕ) → grid f (values g i m) ys (values g j n) ≡ true → (k : ℕ) → k < m → (l : ℕ) × (row (f (g (i + k))) ys (values g (j + k) l) ≡ true)
grid_from f g ys i zero j n t k h = absurd (not-suc-le-zero h)
grid_from f g ys i (suc m) j zero t k h = absurd (clash t)
grid_from f g ys i (suc m) j (suc n) t zero h = (suc n, rw (add-zero i, add-zero j) (and_parts _ _ t).0)
grid_from f g ys i (suc m) j (suc n) t (suc k) h =
    let p : i + suc k ≡ i + 1 + k = omega arith in
    let q : j + suc k ≡ j + 1 + k = omega arith in
    let (_, rest) = and_parts (row (f (g i)) ys (values g j (suc n))) _ t in
    let r = grid_from f g ys (i + 1) m (j + 1) n rest k (le_of_suc-le-suc h) in
    (r.0, rw (p, q) r.1)

-- a test that passes on the grid of the first n values passes at each two numbers below n
pub grid_at : {A : Type 0} (f : A → A → A → Bool) (g : ℕ → A) (n l : ℕ) → grid f (values g 0 n) (values g 0 n) (values g 0 l) ≡ true → (u v : ℕ) → u < n → v < n → f (g u) (g v) (g (u + v)) ≡ true
grid_at f g n l t u v h k =
    let r = grid_from f g (values g 0 n) 0 n 0 l t u h in
    let q : f (g (0 + u)) (g (0 + v)) (g (0 + u + v)) ≡ true = row_from (f (g (0 + u))) g 0 n (0 + u) r.0 r.1 v k in
    rw (zero-add u, zero-add v) at q
