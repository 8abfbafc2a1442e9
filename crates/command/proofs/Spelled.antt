-- Reading a line from the left finds the command that it spells, and no other.
use Rattle.std.proofs.Common.{◌≡◌, ℕ, ◌+◌, ◌-◌, ◌*◌, ◌^◌, ◌≤◌, Bool, true, false, cond, ◌&&◌, eqb, leb, ◌⊎◌, List, [], ◌∷◌, ◌++◌, length, get_or, drop, ℤ, pos, neg_ℤ, Some, None, Option, sym, refl, ap, ◌∙◌, subst, inl, inr, arith, rules, eqb-true, le-leb, leb-true}
use Rattle.std.proofs.lemmas.Option.{none-some, same_Some}
use Rattle.std.specs.Char.{is_ascii_digit}
use Rattle.command.specs.Fields.{fronted, cut_at, letter_of, read_after, limited, numeral_of, positive, negative, whole_of, heading, beside, number_and_rest, whole_and_rest}
use Rattle.command.specs.Spelling.{digits_only, number_after, Numeral, Whole}
use Rattle.command.specs.Decoding.{also}
use Rattle.command.proofs.Reading.{limited_in, numeral_is}

pub also_some : {A B : Type 0} (o : Option A) (f : A → Option B) (c : B) → also o f ≡ Some c → (x : A) × (o ≡ Some x) × (f x ≡ Some c)
also_some None f c e = absurd (none-some _ e)
also_some (Some x) f c e = (x, refl, e)

pub cond_some : {A : Type 0} (b : Bool) (x y : Option A) (c : A) → cond b x y ≡ Some c → ((b ≡ true) × (x ≡ Some c)) ⊎ (y ≡ Some c)
cond_some true x y c e = inl (refl, e)
cond_some false x y c e = inr e

pub letter_from : (a : List ℕ) (x : ℕ) → letter_of a ≡ Some x → a ≡ x ∷ []
letter_from [] x e = absurd (none-some _ e)
letter_from (y ∷ []) x e = ap (λ v. v ∷ []) (same_Some _ _ e)
letter_from (y ∷ z ∷ zs) x e = absurd (none-some _ e)

-- cuts
cut_step : (s x : ℕ) (xs : List ℕ) (b : Bool) → eqb x s ≡ b → (o : Option (List ℕ × List ℕ)) → ((q : List ℕ × List ℕ) → o ≡ Some q → xs ≡ q.0 ++ s ∷ q.1) → (p : List ℕ × List ℕ) → cond b (Some ([], xs)) (fronted x o) ≡ Some p → x ∷ xs ≡ p.0 ++ s ∷ p.1
cut_step s x xs true is o before p e = subst (λ (q : List ℕ × List ℕ). x ∷ xs ≡ q.0 ++ s ∷ q.1) (same_Some _ _ e) (ap (λ y. y ∷ xs) (eqb-true x s is))
cut_step s x xs false is None before p e = absurd (none-some _ e)
cut_step s x xs false is (Some q) before p e = subst (λ (r : List ℕ × List ℕ). x ∷ xs ≡ r.0 ++ s ∷ r.1) (same_Some _ _ e) (ap (λ t. x ∷ t) (before q refl))

pub cut_from : (s : ℕ) (text : List ℕ) (p : List ℕ × List ℕ) → cut_at s text ≡ Some p → text ≡ p.0 ++ s ∷ p.1
unfolding cut_at
cut_from s [] p e = absurd (none-some _ e)
cut_from s (x ∷ xs) p e = cut_step s x xs (eqb x s) refl (cut_at s xs) (cut_from s xs) p e

digit_no_comma : (c : ℕ) → is_ascii_digit c ≡ true → eqb c 44 ≡ false
digit_no_comma c d = search rules

digit_no_minus : (c : ℕ) → is_ascii_digit c ≡ true → eqb c 45 ≡ false
digit_no_minus c d = search rules

and_first : (a b : Bool) → (a && b) ≡ true → a ≡ true
and_first true b e = refl
and_first false b e = e

and_second : (a b : Bool) → (a && b) ≡ true → b ≡ true
and_second true b e = e
and_second false b e = absurd (let z : ◌≡◌ {A = ℕ} 0 1 = cc in omega arith)

pub cut_digits : (a rest : List ℕ) → digits_only a ≡ true → cut_at 44 (a ++ 44 ∷ rest) ≡ Some (a, rest)
unfolding cut_at
cut_digits [] rest only = refl
cut_digits (c ∷ cs) rest only =
    rw (digit_no_comma c (and_first (is_ascii_digit c) (digits_only cs) only), cut_digits cs rest (and_second (is_ascii_digit c) (digits_only cs) only))

cut_minus : (a rest : List ℕ) → digits_only a ≡ true → cut_at 44 (45 ∷ (a ++ 44 ∷ rest)) ≡ Some (45 ∷ a, rest)
unfolding cut_at
cut_minus a rest only = rw (cut_digits a rest only)

-- numerals
read_and : (b d : Bool) (later found : Option ℕ) → later ≡ cond d found None → cond b later None ≡ cond (b && d) found None
read_and true d later found e = e
read_and false d later found e = refl

read_is : (n : ℕ) (ds : List ℕ) → read_after n ds ≡ cond (digits_only ds) (Some (number_after n ds)) None
unfolding read_after
read_is n [] = refl
read_is n (c ∷ cs) =
    read_and (is_ascii_digit c) (digits_only cs) (read_after (n * 10 + (c - 48)) cs) (Some (number_after (n * 10 + (c - 48)) cs)) (read_is (n * 10 + (c - 48)) cs)

limited_from : (o : Option ℕ) (n : ℕ) → limited o ≡ Some n → (o ≡ Some n) × (n ≤ 2 ^ 62)
limited_from None n e = absurd (none-some _ e)
limited_from (Some m) n e = limited_by (leb m (2 ^ 62)) m n refl e
  where
    limited_by : (b : Bool) (m n : ℕ) → leb m (2 ^ 62) ≡ b → cond b (Some m) None ≡ Some n → (◌≡◌ {A = Option ℕ} (Some m) (Some n)) × (n ≤ 2 ^ 62)
    limited_by true m n is e = (e, search rules)
    limited_by false m n is e = absurd (none-some _ e)

digits_from : (d : Bool) (v n : ℕ) → cond d (Some v) None ≡ Some n → (d ≡ true) × (v ≡ n)
digits_from true v n e = (refl, same_Some _ _ e)
digits_from false v n e = absurd (none-some _ e)

pub numeral_from : (ds : List ℕ) (n : ℕ) → numeral_of ds ≡ Some n → Numeral n ds
unfolding numeral_of
numeral_from ds n e = elim (cond_some (leb 1 (length ds) && leb (length ds) 19) (limited (read_after 0 ds)) None n e) [ inl h ↦ numeral_fit ds n h.0 h.1 | inr h ↦ absurd (none-some _ h) ]
  where
    numeral_fit : (ds : List ℕ) (n : ℕ) → (leb 1 (length ds) && leb (length ds) 19) ≡ true → limited (read_after 0 ds) ≡ Some n → Numeral n ds
    numeral_fit ds n fit e =
        let low : leb 1 (length ds) ≡ true = and_first (leb 1 (length ds)) (leb (length ds) 19) fit in
        let high : leb (length ds) 19 ≡ true = and_second (leb 1 (length ds)) (leb (length ds) 19) fit in
        let read = limited_from (read_after 0 ds) n e in
        let is = digits_from (digits_only ds) (number_after 0 ds) n (sym (read_is 0 ds) ∙ read.0) in
        record { some = leb-true 1 (length ds) low; few = leb-true (length ds) 19 high; digits = is.0; writes = is.1; limit = read.1 }

pub numeral_to : (ds : List ℕ) (n : ℕ) → Numeral n ds → numeral_of ds ≡ Some n
numeral_to ds n h =
    let some : leb 1 (length ds) ≡ true = le-leb 1 (length ds) h.some in
    let few : leb (length ds) 19 ≡ true = le-leb (length ds) 19 h.few in
    let fit : (leb 1 (length ds) && leb (length ds) 19) ≡ true = rw (some, few) in
    let digits : digits_only ds ≡ true = h.digits in
    let writes : number_after 0 ds ≡ n = h.writes in
    let read : read_after 0 ds ≡ Some n = read_is 0 ds ∙ rw (digits, writes) in
    numeral_is ds (Some n) fit read ∙ limited_in n h.limit

-- whole numbers
positive_from : (o : Option ℕ) (z : ℤ) → positive o ≡ Some z → (n : ℕ) × (o ≡ Some n) × (z ≡ pos n)
positive_from None z e = absurd (none-some _ e)
positive_from (Some n) z e = (n, refl, sym (same_Some _ _ e))

negative_from : (o : Option ℕ) (z : ℤ) → negative o ≡ Some z → (n : ℕ) × (o ≡ Some n) × (z ≡ neg_ℤ (pos n))
negative_from None z e = absurd (none-some _ e)
negative_from (Some n) z e = (n, refl, sym (same_Some _ _ e))

numeral_first : (c : ℕ) (cs : List ℕ) → digits_only (c ∷ cs) ≡ true → eqb c 45 ≡ false
numeral_first c cs only = digit_no_minus c (and_first (is_ascii_digit c) (digits_only cs) only)

minus_from : (text : List ℕ) → eqb (get_or text 0 0) 45 ≡ true → text ≡ 45 ∷ drop 1 text
minus_from [] e = absurd (let z : ◌≡◌ {A = ℕ} 0 1 = cc in omega arith)
minus_from (c ∷ cs) e = ap (λ x. x ∷ cs) (eqb-true c 45 e)

pub whole_from : (text : List ℕ) (z : ℤ) → whole_of text ≡ Some z → Whole z text
whole_from text z e = elim (cond_some (eqb (get_or text 0 0) 45) (negative (numeral_of (drop 1 text))) (positive (numeral_of text)) z e) [ inl h ↦ whole_minus h.0 h.1 | inr h ↦ whole_plain h ]
  where
    whole_minus : eqb (get_or text 0 0) 45 ≡ true → negative (numeral_of (drop 1 text)) ≡ Some z → Whole z text
    whole_minus is e = let read = negative_from (numeral_of (drop 1 text)) z e in inr (read.0, drop 1 text, numeral_from (drop 1 text) read.0 read.1, minus_from text is, read.2)

    whole_plain : positive (numeral_of text) ≡ Some z → Whole z text
    whole_plain e = let read = positive_from (numeral_of text) z e in inl (read.0, numeral_from text read.0 read.1, read.2)

plain_to : (text : List ℕ) (n : ℕ) → Numeral n text → whole_of text ≡ Some (pos n)
plain_to [] n h = absurd (omega (arith, h.some))
plain_to (c ∷ cs) n h = rw (numeral_first c cs h.digits, numeral_to (c ∷ cs) n h)

pub whole_to : (text : List ℕ) (z : ℤ) → Whole z text → whole_of text ≡ Some z
whole_to text z (inl (n, h, e)) = plain_to text n h ∙ ap (λ (y : ℤ). Some y) (sym e)
whole_to text z (inr (n, ds, h, t, e)) = ap whole_of t ∙ (rw (numeral_to ds n h) (ap (λ (y : ℤ). Some y) (sym e)))

pub cut_whole : (a rest : List ℕ) (z : ℤ) → Whole z a → cut_at 44 (a ++ 44 ∷ rest) ≡ Some (a, rest)
cut_whole a rest z (inl (n, h, e)) = cut_digits a rest h.digits
cut_whole a rest z (inr (n, ds, h, t, e)) = rw t (cut_minus ds rest h.digits)

-- a field and the rest
pub heading_from : {A : Type 0} (reads : List ℕ → Option A) (text : List ℕ) (x : A × List ℕ) → heading reads (cut_at 44 text) ≡ Some x → (a : List ℕ) × (reads a ≡ Some x.0) × (text ≡ a ++ 44 ∷ x.1)
heading_from {A} reads text x e = heading_by (cut_at 44 text) refl e
  where
    beside_from : (o : Option A) (rest : List ℕ) → beside o rest ≡ Some x → (o ≡ Some x.0) × (rest ≡ x.1)
    beside_from None rest e = absurd (none-some _ e)
    beside_from (Some y) rest e = (ap (λ (q : A × List ℕ). Some q.0) (same_Some _ _ e), ap (λ (q : A × List ℕ). q.1) (same_Some _ _ e))

    heading_by : (o : Option (List ℕ × List ℕ)) → cut_at 44 text ≡ o → heading reads o ≡ Some x → (a : List ℕ) × (reads a ≡ Some x.0) × (text ≡ a ++ 44 ∷ x.1)
    heading_by None is e = absurd (none-some _ e)
    heading_by (Some p) is e = let found = beside_from (reads p.0) p.1 e in (p.0, found.0, cut_from 44 text p is ∙ ap (λ (t : List ℕ). p.0 ++ 44 ∷ t) found.1)

pub number_then_from : (text : List ℕ) (x : ℕ × List ℕ) → number_and_rest text ≡ Some x → (a : List ℕ) × Numeral x.0 a × (text ≡ a ++ 44 ∷ x.1)
unfolding number_and_rest
number_then_from text x e = let found = heading_from numeral_of text x e in (found.0, numeral_from found.0 x.0 found.1, found.2)

pub whole_then_from : (text : List ℕ) (x : ℤ × List ℕ) → whole_and_rest text ≡ Some x → (a : List ℕ) × Whole x.0 a × (text ≡ a ++ 44 ∷ x.1)
unfolding whole_and_rest
whole_then_from text x e = let found = heading_from whole_of text x e in (found.0, whole_from found.0 x.0 found.1, found.2)

pub number_then_to : (a rest : List ℕ) (n : ℕ) → Numeral n a → number_and_rest (a ++ 44 ∷ rest) ≡ Some (n, rest)
unfolding number_and_rest
number_then_to a rest n h = rw (cut_digits a rest h.digits, numeral_to a n h)

pub whole_then_to : (a rest : List ℕ) (z : ℤ) → Whole z a → whole_and_rest (a ++ 44 ∷ rest) ≡ Some (z, rest)
unfolding whole_and_rest
whole_then_to a rest z h = ap (λ (o : Option (List ℕ × List ℕ)). heading whole_of o) (cut_whole a rest z h) ∙ ap (λ (o : Option ℤ). beside o rest) (whole_to a z h)
