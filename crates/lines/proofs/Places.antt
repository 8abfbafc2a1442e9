-- Places: a stage takes lines of size r^t over the shares to lines of size r^(t + 1), whatever it is for an entry to stand for a number.
use mathlib.Core.Path.{◌≡◌, refl, sym, ◌∙◌, ap, subst, fun_ext}
use Prim.Native.Nat.{ℕ, zero, suc, ◌+◌, ◌-◌, ◌*◌, ◌/◌, ◌%◌, ◌^◌, ◌<◌, ◌≤◌}
use native.Mathlib.Nat.{zero-add, add-zero, add_assoc, zero-mul, mul-one, mul_comm, mul_assoc, add-mul, pow-zero, pow-suc, pow-succ', one-le-pow, mod-lt, div-add-mod', div-lt_iff_lt-mul}
use native.Mathlib.Decide.{dec_lt}
use native.Mathlib.Omega.{arith}
use lib.Arith.{digits_lt, digits_div, digits_mod}
use Rattle.integers.specs.declared.Complex.{Complex}
use Rattle.lines.specs.Lines.{part, mix, radix_line_of}
use Rattle.lines.specs.Places.{reversed, share, place, Standing, Mixed, Crossed, Partly, Staged, Run}

-- reversing

pub reversed_below : (r u g : ℕ) → 1 ≤ r → reversed r u g < r ^ u
unfolding reversed
reversed_below r zero g h = rw pow-zero (omega arith)
reversed_below r (suc u) g h = rw pow-succ' (digits_lt (mod-lt g h) (reversed_below r u (g / r) h))

pub reversed_next : (r u g i : ℕ) → i < r → reversed r (suc u) (g * r + i) ≡ i * r ^ u + reversed r u g
unfolding reversed
reversed_next r u g i h = rw (digits_mod g h, digits_div g h) refl

-- the digit in front comes last
pub reversed_high : (r u a b : ℕ) → a < r → b < r ^ u → reversed r (suc u) (a * r ^ u + b) ≡ reversed r u b * r + a
unfolding reversed
reversed_high r zero a b h k =
    let e : r ^ 0 ≡ 1 = pow-zero r in
    let z : b ≡ 0 = omega arith in
    let d : a * r ^ 0 + b ≡ 0 * r + a = rw (z, e) (omega arith) in
    rw (d, digits_mod 0 h, e) (omega arith)
reversed_high r (suc u) a b h k =
    let p : 1 ≤ r = omega arith in
    let e : a * r ^ suc u + b ≡ (a * r ^ u + b / r) * r + b % r =
    rw (pow-suc r u, add-mul (a * r ^ u) (b / r) r, mul_assoc a (r ^ u) r) (ap (λ (x : ℕ). a * (r ^ u * r) + x) (sym (div-add-mod' b r)) ∙ sym (add_assoc (a * (r ^ u * r)) (b / r * r) (b % r))) in
    let l : b / r < r ^ u = (div-lt_iff_lt-mul p).1 (rw pow-suc at k) in
    let m : b % r < r = mod-lt b p in
    let ih : reversed r (suc u) (a * r ^ u + b / r) ≡ reversed r u (b / r) * r + a = reversed_high r u a (b / r) h l in
    let f : b % r * r ^ suc u ≡ b % r * r ^ u * r = rw (pow-suc r u) (sym (mul_assoc (b % r) (r ^ u) r)) in
    let w : reversed r (suc (suc u)) (a * r ^ suc u + b) ≡ b % r * r ^ suc u + reversed r (suc u) (a * r ^ u + b / r) =
    ap (reversed r (suc (suc u))) e ∙ reversed_next r (suc u) (a * r ^ u + b / r) (b % r) m in
    w ∙ ap (λ (x : ℕ). b % r * r ^ suc u + x) ih ∙ ap (λ (x : ℕ). x + (reversed r u (b / r) * r + a)) f ∙ sym (add_assoc (b % r * r ^ u * r) (reversed r u (b / r) * r) a)
    ∙ ap (λ (x : ℕ). x + a) (sym (add-mul (b % r * r ^ u) (reversed r u (b / r)) r))

-- reversing twice leads back
pub reversed_twice : (r u g : ℕ) → 1 ≤ r → g < r ^ u → reversed r u (reversed r u g) ≡ g
unfolding reversed
reversed_twice r zero g h k = let e : r ^ 0 ≡ 1 = pow-zero r in omega arith
reversed_twice r (suc u) g h k =
    let l : g / r < r ^ u = (div-lt_iff_lt-mul h).1 (rw pow-suc at k) in
    reversed_high r u (g % r) (reversed r u (g / r)) (mod-lt g h) (reversed_below r u (g / r) h)
    ∙ ap (λ (x : ℕ). x * r + g % r) (reversed_twice r u (g / r) h l) ∙ div-add-mod' g r

-- shares and lines

share_index : (r u g i n : ℕ) → i < r → n * r ^ suc u + reversed r (suc u) (g * r + i) ≡ (r * n + i) * r ^ u + reversed r u g
share_index r u g i n h =
    let e : n * r ^ suc u ≡ r * n * r ^ u = ap (λ (x : ℕ). n * x) (pow-succ' r u) ∙ sym (mul_assoc n r (r ^ u)) ∙ ap (λ (x : ℕ). x * r ^ u) (mul_comm n r) in
    rw (reversed_next r u g i h, e, add-mul (r * n) i (r ^ u)) (sym (add_assoc (r * n * r ^ u) (i * r ^ u) (reversed r u g)))

-- part i of a share is the share of the group with i as one more digit
pub share_next : (r u g i : ℕ) (s : ℕ → Complex) → i < r → share r (suc u) (g * r + i) s ≡ part r i (share r u g s)
share_next r u g i s h = fun_ext (λ n. ap s (share_index r u g i n h))

pub line_step : (q r t : ℕ) (s : ℕ → Complex) (k l : ℕ) → k < r ^ t → radix_line_of q r (suc t) s (l * r ^ t + k) ≡ mix q r t k (λ i. radix_line_of q r t (part r i s) k) l
unfolding radix_line_of
line_step q r t s k l h = rw (digits_mod l h, digits_div l h) refl

-- places

pub place_as : (r t g k i : ℕ) → place r t g k i ≡ (g * r + i) * r ^ t + k
unfolding place
place_as r t g k i =
    let e : g * r ^ suc t ≡ g * r * r ^ t = ap (λ (x : ℕ). g * x) (pow-succ' r t) ∙ sym (mul_assoc g r (r ^ t)) in
    rw (e, add-mul (g * r) i (r ^ t)) (sym (add_assoc (g * r * r ^ t) (i * r ^ t) k))

offset_below : (r t k i : ℕ) → k < r ^ t → i < r → i * r ^ t + k < r ^ suc t
offset_below r t k i h l = rw pow-succ' (digits_lt l h)

pub place_below : (r t u g k i : ℕ) → g < r ^ u → k < r ^ t → i < r → place r t g k i < r ^ u * r ^ suc t
unfolding place
place_below r t u g k i h l m = digits_lt h (offset_below r t k i l m)

-- butterflies that share a place are the same, and so is the entry
pub place_group : (r t g k i g' k' i' : ℕ) → k < r ^ t → i < r → k' < r ^ t → i' < r → place r t g' k' i' ≡ place r t g k i → g' ≡ g
unfolding place
place_group r t g k i g' k' i' h l h' l' e =
    sym (digits_div g' (offset_below r t k' i' h' l')) ∙ ap (λ (x : ℕ). x / r ^ suc t) e ∙ digits_div g (offset_below r t k i h l)

place_rest : (r t g k i g' k' i' : ℕ) → k < r ^ t → i < r → k' < r ^ t → i' < r → place r t g' k' i' ≡ place r t g k i → i' * r ^ t + k' ≡ i * r ^ t + k
unfolding place
place_rest r t g k i g' k' i' h l h' l' e =
    sym (digits_mod g' (offset_below r t k' i' h' l')) ∙ ap (λ (x : ℕ). x % r ^ suc t) e ∙ digits_mod g (offset_below r t k i h l)

pub place_offset : (r t g k i g' k' i' : ℕ) → k < r ^ t → i < r → k' < r ^ t → i' < r → place r t g' k' i' ≡ place r t g k i → k' ≡ k
place_offset r t g k i g' k' i' h l h' l' e =
    sym (digits_mod i' h') ∙ ap (λ (x : ℕ). x % r ^ t) (place_rest r t g k i g' k' i' h l h' l' e) ∙ digits_mod i h

pub place_entry : (r t g k i g' k' i' : ℕ) → k < r ^ t → i < r → k' < r ^ t → i' < r → place r t g' k' i' ≡ place r t g k i → i' ≡ i
place_entry r t g k i g' k' i' h l h' l' e =
    sym (digits_div i' h') ∙ ap (λ (x : ℕ). x / r ^ t) (place_rest r t g k i g' k' i' h l h' l' e) ∙ digits_div i h

-- one butterfly, from entries that stand for lines of the parts

pub butterfly_made : {E : Type 0} (Stands : Complex → E → Type 0) (q r t u g k : ℕ) (s : ℕ → Complex) (before after : ℕ → E) → k < r ^ t → ((i : ℕ) → i < r → Stands (radix_line_of q r t (share r (suc u) (g * r + i) s) k) (before (place r t g k i))) → Mixed Stands q r t g k before after → (l : ℕ) → l < r → Stands (radix_line_of q r (suc t) (share r u g s) (l * r ^ t + k)) (after (place r t g k l))
butterfly_made Stands q r t u g k s before after h stood mixed l below =
    let x : ℕ → Complex = λ i. radix_line_of q r t (part r i (share r u g s)) k in
    let ready : (i : ℕ) → i < r → Stands (x i) (before (place r t g k i)) = λ i m. subst (λ (z : ℕ → Complex). Stands (radix_line_of q r t z k) (before (place r t g k i))) (share_next r u g i s m) (stood i m) in
    subst (λ (y : Complex). Stands y (after (place r t g k l))) (sym (line_step q r t (share r u g s) k l h)) (mixed x ready l below)

-- a stage in the making

pub partly_start : {E : Type 0} (Stands : Complex → E → Type 0) (q r t u : ℕ) (s : ℕ → Complex) (block : ℕ → E) → Standing Stands q r t (suc u) s block → Partly Stands q r t u 0 s block
partly_start Stands q r t u s block h = record {
  done = λ g k l a b c d. absurd (omega arith);
  left = λ g k i a b c d. subst (λ (p : ℕ). Stands (radix_line_of q r t (share r (suc u) (g * r + i) s) k) (block p)) (sym (place_as r t g k i)) (h (g * r + i) k (rw pow-suc (digits_lt a c)) b);
}

pub partly_end : {E : Type 0} (Stands : Complex → E → Type 0) (q r t u : ℕ) (s : ℕ → Complex) (block : ℕ → E) → 1 ≤ r → Partly Stands q r t u (r ^ u * r ^ t) s block → Standing Stands q r (suc t) u s block
unfolding place
partly_end Stands q r t u s block one h g j a b =
    let p : 1 ≤ r ^ t = one-le-pow t r one in
    let k = j % r ^ t in
    let l = j / r ^ t in
    let c : k < r ^ t = mod-lt j p in
    let d : l < r = (div-lt_iff_lt-mul p).1 (rw pow-succ' at b) in
    let e : l * r ^ t + k ≡ j = div-add-mod' j (r ^ t) in
    subst (λ (n : ℕ). Stands (radix_line_of q r (suc t) (share r u g s) n) (block (g * r ^ suc t + n))) e (h.done g k l a c d (digits_lt a c))

pub partly_step : {E : Type 0} (Stands : Complex → E → Type 0) (q r t u b g k : ℕ) (s : ℕ → Complex) (before after : ℕ → E) → g < r ^ u → k < r ^ t → b ≡ g * r ^ t + k → Partly Stands q r t u b s before → Crossed Stands q r t g k before after → Partly Stands q r t u (b + 1) s after
partly_step {E} Stands q r t u b g k s before after hg hk eb h c = record { done = done; left = left }
  where
    -- another butterfly's entries stay
    apart : (g' k' i' : ℕ) → k' < r ^ t → i' < r → (g' * r ^ t + k' ≡ b → ⊥) → before (place r t g' k' i') ≡ after (place r t g' k' i')
    apart g' k' i' hk' hi' ne =
        sym (c.kept (place r t g' k' i') (λ i hi e. ne (ap (λ (x : ℕ). x * r ^ t + k') (place_group r t g k i g' k' i' hk hi hk' hi' e) ∙ ap (λ (x : ℕ). g * r ^ t + x) (place_offset r t g k i g' k' i' hk hi hk' hi' e) ∙ sym eb)))

    here : (l : ℕ) → l < r → Stands (radix_line_of q r (suc t) (share r u g s) (l * r ^ t + k)) (after (place r t g k l))
    here = butterfly_made Stands q r t u g k s before after hk (λ i hi. h.left g k i hg hk hi (omega arith)) c.mixed

    done_at : (g' k' l : ℕ) → g' < r ^ u → k' < r ^ t → l < r → g' * r ^ t + k' < b + 1 → Dec (g' * r ^ t + k' < b) → Stands (radix_line_of q r (suc t) (share r u g' s) (l * r ^ t + k')) (after (place r t g' k' l))
    done_at g' k' l hg' hk' hl less (yes m) =
        subst (λ (e : E). Stands (radix_line_of q r (suc t) (share r u g' s) (l * r ^ t + k')) e) (apart g' k' l hk' hl (λ x. omega arith)) (h.done g' k' l hg' hk' hl m)
    done_at g' k' l hg' hk' hl less (no m) =
        let e : g' * r ^ t + k' ≡ g * r ^ t + k = omega arith in
        let eg : g ≡ g' = sym (digits_div g hk) ∙ ap (λ (x : ℕ). x / r ^ t) (sym e) ∙ digits_div g' hk' in
        let ek : k ≡ k' = sym (digits_mod g hk) ∙ ap (λ (x : ℕ). x % r ^ t) (sym e) ∙ digits_mod g' hk' in
        rw (← eg, ← ek) (here l hl)

    done : (g' k' l : ℕ) → g' < r ^ u → k' < r ^ t → l < r → g' * r ^ t + k' < b + 1 → Stands (radix_line_of q r (suc t) (share r u g' s) (l * r ^ t + k')) (after (place r t g' k' l))
    done g' k' l hg' hk' hl less = done_at g' k' l hg' hk' hl less (dec_lt (g' * r ^ t + k') b)

    left : (g' k' i : ℕ) → g' < r ^ u → k' < r ^ t → i < r → b + 1 ≤ g' * r ^ t + k' → Stands (radix_line_of q r t (share r (suc u) (g' * r + i) s) k') (after (place r t g' k' i))
    left g' k' i hg' hk' hi more =
        subst (λ (e : E). Stands (radix_line_of q r t (share r (suc u) (g' * r + i) s) k') e) (apart g' k' i hk' hi (λ x. omega arith)) (h.left g' k' i hg' hk' hi (omega arith))

-- a whole stage, and a whole run

pub stage_made : {E : Type 0} (Stands : Complex → E → Type 0) (q r t u : ℕ) (s : ℕ → Complex) (before after : ℕ → E) → 1 ≤ r → Standing Stands q r t (suc u) s before → Staged Stands q r t u before after → Standing Stands q r (suc t) u s after
unfolding place
stage_made Stands q r t u s before after one h made g j a b =
    let p : 1 ≤ r ^ t = one-le-pow t r one in
    let k = j % r ^ t in
    let l = j / r ^ t in
    let c : k < r ^ t = mod-lt j p in
    let d : l < r = (div-lt_iff_lt-mul p).1 (rw pow-succ' at b) in
    let e : l * r ^ t + k ≡ j = div-add-mod' j (r ^ t) in
    let start = partly_start Stands q r t u s before h in
    subst (λ (n : ℕ). Stands (radix_line_of q r (suc t) (share r u g s) n) (after (g * r ^ suc t + n))) e
    (butterfly_made Stands q r t u g k s before after c (λ i hi. start.left g k i a c hi (omega arith)) (made g k a c) l d)

-- samples at their reversed places stand for lines of size 1
pub loaded : {E : Type 0} (Stands : Complex → E → Type 0) (q r n : ℕ) (s : ℕ → Complex) (block : ℕ → E) → 1 ≤ r → ((i : ℕ) → i < r ^ n → Stands (s i) (block (reversed r n i))) → Standing Stands q r 0 n s block
unfolding radix_line_of
loaded Stands q r n s block one h g k a b =
    let z : r ^ 0 ≡ 1 = pow-zero r in
    let e : k ≡ 0 = omega arith in
    let p : reversed r n (reversed r n g) ≡ g * r ^ 0 + k = reversed_twice r n g one a ∙ rw (e, z) (omega arith) in
    let i : reversed r n g ≡ 0 * r ^ n + reversed r n g = rw zero-mul (sym (zero-add (reversed r n g))) in
    subst (λ (m : ℕ). Stands (s m) (block (g * r ^ 0 + k))) i
    (subst (λ (m : ℕ). Stands (s (reversed r n g)) (block m)) p (h (reversed r n g) (reversed_below r n g one)))

-- after the last stage each place stands for its line
pub finished : {E : Type 0} (Stands : Complex → E → Type 0) (q r n : ℕ) (s : ℕ → Complex) (block : ℕ → E) → Standing Stands q r n 0 s block → (k : ℕ) → k < r ^ n → Stands (radix_line_of q r n s k) (block k)
unfolding reversed
finished {E} Stands q r n s block h k below =
    let z : r ^ 0 ≡ 1 = pow-zero r in
    let one : 0 < r ^ 0 = omega arith in
    let f : share r 0 0 s ≡ s = fun_ext (λ m. ap s (ap (λ (x : ℕ). m * x + 0) z ∙ add-zero (m * 1) ∙ mul-one m)) in
    let p : 0 * r ^ n + k ≡ k = rw zero-mul (zero-add k) in
    let w : Stands (radix_line_of q r n (share r 0 0 s) k) (block (0 * r ^ n + k)) = h 0 k one below in
    subst (λ (x : ℕ → Complex). Stands (radix_line_of q r n x k) (block k)) f (subst (λ (m : ℕ). Stands (radix_line_of q r n (share r 0 0 s) k) (block m)) p w)

pub run_stands : {E : Type 0} (Stands : Complex → E → Type 0) (q r n : ℕ) (s : ℕ → Complex) (blocks : ℕ → ℕ → E) → 1 ≤ r → Run Stands q r n s blocks → (t : ℕ) → t ≤ n → Standing Stands q r t (n - t) s (blocks t)
run_stands Stands q r n s blocks one run zero h =
    let e : n ≡ n - 0 = omega arith in
    subst (λ (u : ℕ). Standing Stands q r 0 u s (blocks 0)) e (loaded Stands q r n s (blocks 0) one run.loaded)
run_stands Stands q r n s blocks one run (suc t) h =
    let e : n - t ≡ suc (n - suc t) = omega arith in
    stage_made Stands q r t (n - suc t) s (blocks t) (blocks (suc t)) one
    (subst (λ (u : ℕ). Standing Stands q r t u s (blocks t)) e (run_stands Stands q r n s blocks one run t (omega arith))) (run.staged t h)
