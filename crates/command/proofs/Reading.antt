-- Fields cut and numbers read from the left, step by step.
use Prim.Native.Nat.{suc}
use Rattle.std.proofs.Common.{◌≡◌, ℕ, ◌+◌, ◌-◌, ◌*◌, ◌^◌, ◌%◌, ◌<◌, ◌≤◌, mul-le-mul, true, false, ◌&&◌, Bool, cond, not, eqb, ltb, leb, List, [], ◌∷◌, length, take, drop, Some, None, Option, sym, refl, ap, ◌∙◌, arith, rules}
use Rattle.std.proofs.Math.Nat.{mul_assoc, mul_comm, pow-suc, one-le-pow, pow-le-pow_right, mod-eq_of_lt}
use Rattle.std.specs.Char.{is_ascii_digit}
use Rattle.std.specs.List.{position, position_or_len}
use Rattle.std.specs.Option.{option_map, MatchOption}
use Rattle.std.specs.Bool.{then_some}
use Rattle.std.proofs.lemmas.Bool.Decides.{nat_tests}
use Rattle.command.specs.Fields.{cut_at, fronted, read_after, digit_after, digit_after_modulo, limited, numeral_of}
use Rattle.command.specs.Decoding.{also}
use Rattle.command.proofs.Folding.{folded}

-- what is before place i and what is after it
abbrev pub parts : List ℕ → ℕ → List ℕ × List ℕ
parts text i = (take i text, drop (i + 1) text)

-- a cut is made at the first place of the separator
cut_later : (x i : ℕ) (xs : List ℕ) (b : Bool) → fronted x (cond b (Some (take i xs, drop (i + 1) xs)) None) ≡ cond b (Some (take (1 + i) (x ∷ xs), drop (1 + i + 1) (x ∷ xs))) None
cut_later x i xs true = let e : 1 + i ≡ suc i = omega arith in let f : 1 + i + 1 ≡ suc (i + 1) = omega arith in rw (f, e)
cut_later x i xs false = refl

cut_step : (x : ℕ) (xs : List ℕ) (b : Bool) (i : ℕ) (later : Option (List ℕ × List ℕ)) → later ≡ cond (ltb i (length xs)) (Some (take i xs, drop (i + 1) xs)) None → cond b (Some ([], xs)) (fronted x later) ≡ (let n = cond (not b) (1 + i) 0 in cond (ltb n (length (x ∷ xs))) (Some (take n (x ∷ xs), drop (n + 1) (x ∷ xs))) None)
cut_step x xs true i later e = let some : ltb 0 (suc (length xs)) ≡ true = grind (arith, nat_tests) in rw some
cut_step x xs false i later e = let same : ltb (1 + i) (suc (length xs)) ≡ ltb i (length xs) = grind (arith, nat_tests) in rw (same, e) (cut_later x i xs (ltb i (length xs)))

cut_is : (separator : ℕ) (text : List ℕ) → cut_at separator text ≡ (let i = position_or_len (λ b. eqb b separator) text in cond (ltb i (length text)) (Some (take i text, drop (i + 1) text)) None)
unfolding cut_at
cut_is separator [] = refl
cut_is separator (x ∷ xs) = cut_step x xs (eqb x separator) (position_or_len (λ b. eqb b separator) xs) (cut_at separator xs) (cut_is separator xs)

parts_by : (text : List ℕ) (n : ℕ) (b : Bool) → ◌≡◌ {A = Option (List ℕ × List ℕ)} (cond b (Some (take n text, drop (n + 1) text)) None) (option_map (parts text) (cond b (Some n) None))
parts_by text n true = refl
parts_by text n false = refl

pub cut_at_place : (separator : ℕ) (text : List ℕ) (o : Option ℕ) → o ≡ position (λ b. eqb b separator) text → cut_at separator text ≡ option_map (parts text) o
cut_at_place separator text o e =
    let n = position_or_len (λ b. eqb b separator) text in
    cut_is separator text ∙ (parts_by text n (ltb n (length text)) ∙ ap (option_map (parts text)) (sym e))

-- too few or too many bytes
pub numeral_unfit : (ds : List ℕ) → (leb 1 (length ds) && leb (length ds) 19) ≡ false → numeral_of ds ≡ None
unfolding numeral_of
numeral_unfit ds unfit = rw unfit

-- what lies within the limit
pub limited_in : (n : ℕ) → n ≤ 2 ^ 62 → limited (Some n) ≡ Some n
limited_in n low = search rules

pub limited_out : (n : ℕ) → 2 ^ 62 < n → limited (Some n) ≡ None
limited_out n high = search rules

-- what is read from above the limit is above it
limited_beyond_by : (b : Bool) (later : Option ℕ) → limited later ≡ None → limited (cond b later None) ≡ None
limited_beyond_by true later e = e
limited_beyond_by false later e = refl

limited_beyond : (n : ℕ) (ds : List ℕ) → 2 ^ 62 < n → limited (read_after n ds) ≡ None
unfolding read_after
limited_beyond n [] high = limited_out n high
limited_beyond n (c ∷ cs) high = limited_beyond_by (is_ascii_digit c) (read_after (n * 10 + (c - 48)) cs) (limited_beyond (n * 10 + (c - 48)) cs (omega arith))

-- digits read as long as the number fits the type are digits read, up to the limit
limited_step : (b t : Bool) (m : ℕ) (cs : List ℕ) → ltb m (2 ^ 64) ≡ t → limited (folded digit_after m cs) ≡ limited (read_after m cs) → limited (also (cond (b && t) (Some m) None) (λ k. folded digit_after k cs)) ≡ limited (cond b (read_after m cs) None)
limited_step true true m cs is e = e
limited_step true false m cs is e = sym (limited_beyond m cs (let high : 2 ^ 64 ≤ m = grind (arith, nat_tests) in omega arith))
limited_step false t m cs is e = refl

limited_folded : (n : ℕ) (ds : List ℕ) → limited (folded digit_after n ds) ≡ limited (read_after n ds)
unfolding read_after
limited_folded n [] = refl
limited_folded n (c ∷ cs) = limited_step (is_ascii_digit c) (ltb (n * 10 + (c - 48)) (2 ^ 64)) (n * 10 + (c - 48)) cs refl (limited_folded (n * 10 + (c - 48)) cs)

-- a digit is at most 9
digit_low : (c : ℕ) → is_ascii_digit c ≡ true → c - 48 ≤ 9
digit_low c e = grind (arith, nat_tests)

-- one more digit of a number that leaves room for more digits leaves room for one digit fewer
room_more : (n d p : ℕ) → d ≤ 9 → (n + 1) * (p * 10) ≤ 2 ^ 64 → (n * 10 + d + 1) * p ≤ 2 ^ 64
room_more n d p low room =
    let le : (n * 10 + d + 1) * p ≤ ((n + 1) * 10) * p = mul-le-mul (let h : n * 10 + d + 1 ≤ (n + 1) * 10 = omega arith in h) (let h : p ≤ p = omega arith in h) in
    let e : ((n + 1) * 10) * p ≡ (n + 1) * (p * 10) = mul_assoc (n + 1) 10 p ∙ ap (λ k. (n + 1) * k) (mul_comm 10 p) in
    omega (arith, le, e, room)

-- where there is room for the digits, no number of them reaches 2^64
folded_step : (b : Bool) (n c m : ℕ) (cs : List ℕ) → m ≡ (n * 10 + (c - 48)) % 2 ^ 64 → (b ≡ true → m ≡ n * 10 + (c - 48)) → (b ≡ true → folded digit_after_modulo m cs ≡ read_after m cs) → also (cond b (Some m) None) (λ k. folded digit_after_modulo k cs) ≡ cond b (read_after (n * 10 + (c - 48)) cs) None
folded_step true n c m cs is same e = e refl ∙ ap (λ k. read_after k cs) (same refl)
folded_step false n c m cs is same e = refl

read_folded : (n : ℕ) (ds : List ℕ) → (n + 1) * 10 ^ length ds ≤ 2 ^ 64 → folded digit_after_modulo n ds ≡ read_after n ds
unfolding read_after
read_folded n [] room = refl
read_folded n (c ∷ cs) room = folded_step (is_ascii_digit c) n c m cs refl same (λ e. read_folded m cs (rw (same e) (more e)))
  where
    m : ℕ
    m = (n * 10 + (c - 48)) % 2 ^ 64

    power : 10 ^ length (c ∷ cs) ≡ 10 ^ length cs * 10
    power = pow-suc 10 (length cs)

    more : is_ascii_digit c ≡ true → (n * 10 + (c - 48) + 1) * 10 ^ length cs ≤ 2 ^ 64
    more e = room_more n (c - 48) (10 ^ length cs) (digit_low c e) (rw power at room)

    same : is_ascii_digit c ≡ true → m ≡ n * 10 + (c - 48)
    same e =
        let one : 1 ≤ 10 ^ length cs = one-le-pow (length cs) 10 (omega arith) in
        let le : (n * 10 + (c - 48) + 1) * 1 ≤ (n * 10 + (c - 48) + 1) * 10 ^ length cs = mul-le-mul (let h : n * 10 + (c - 48) + 1 ≤ n * 10 + (c - 48) + 1 = omega arith in h) one in
        mod-eq_of_lt (omega (arith, le, more e))

-- what a filter at the limit leaves
then_some_is : (b : Bool) (x : ℕ) → then_some b x ≡ cond b (Some x) None
then_some_is true x = refl
then_some_is false x = refl

pub filtered_is : {P : ℕ → Bool → Type 0} (o r : Option ℕ) → ((x : ℕ) (b : Bool) → P x b → b ≡ leb x (2 ^ 62)) → MatchOption o (r ≡ None) (λ x. (b : Bool) × P x b × (r ≡ then_some b x)) → r ≡ limited o
filtered_is None r each e = e
filtered_is (Some x) r each (b, h, e) = e ∙ (ap (λ t. then_some t x) (each x b h) ∙ then_some_is (leb x (2 ^ 62)) x)

-- a numeral is what was read, up to the limit
pub numeral_is : (ds : List ℕ) (o : Option ℕ) → (leb 1 (length ds) && leb (length ds) 19) ≡ true → read_after 0 ds ≡ o → numeral_of ds ≡ limited o
unfolding numeral_of
numeral_is ds o fit e = rw (fit, e)

-- digits read one by one, as long as the number fits the type, and then held to the limit are a numeral
pub numeral_folded : (ds : List ℕ) (o r : Option ℕ) → (leb 1 (length ds) && leb (length ds) 19) ≡ true → o ≡ folded digit_after 0 ds → r ≡ limited o → r ≡ numeral_of ds
numeral_folded ds o r fit read e = e ∙ (ap limited read ∙ (limited_folded 0 ds ∙ sym (numeral_is ds (read_after 0 ds) fit refl)))

-- so are digits that are each added modulo 2^64
pub numeral_folded_modulo : (ds : List ℕ) (o r : Option ℕ) → (leb 1 (length ds) && leb (length ds) 19) ≡ true → o ≡ folded digit_after_modulo 0 ds → r ≡ limited o → r ≡ numeral_of ds
numeral_folded_modulo ds o r fit read e =
    let short : length ds ≤ 19 = grind (arith, nat_tests) in
    let power : 10 ^ length ds ≤ 10 ^ 19 = pow-le-pow_right {n = 10} (omega arith) short in
    let room : (0 + 1) * 10 ^ length ds ≤ 2 ^ 64 = omega (arith, power) in
    e ∙ (ap limited (read ∙ read_folded 0 ds room) ∙ sym (numeral_is ds (read_after 0 ds) fit refl))
