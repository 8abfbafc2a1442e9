-- Input taken apart line by line.
use Prim.Native.Nat.{suc, zero}
use Rattle.std.proofs.Common.{◌-◌, ◌≢◌, ltb, get_or, take, MatchOption, eqb-true, ◌+◌, min, map, Ok, Err, ◌≡◌, ℕ, ◌<◌, Bool, true, false, cond, eqb, List, [], ◌∷◌, ◌++◌, length, Some, None, Option, Result, sym, refl, ap, ◌∙◌, subst, inl, inr, arith, ne_eqb}
use Rattle.std.proofs.lemmas.Option.{none-some, same_Some}
use borrow.Author.Tests.{eqb-false}
use Rattle.refusal.specs.declared.kinds.Refusal.{Refusal}
use Rattle.command.specs.declared.kinds.Command.{Command}
use Rattle.command.specs.Fields.{cut_at}
use Rattle.command.specs.Spelling.{Decodes, Spells}
use Rattle.command.specs.Lines.{Unbroken, Lines, OneSplit, AllDecode, DecodesAll, without_feed}
use Rattle.command.specs.Decoding.{command_of}
use Rattle.command.proofs.Commands.{command_to, decodes_read, command_from}
use Rattle.std.proofs.lemmas.Iterator.{YieldsList}
use Rattle.std.proofs.lemmas.Iterator.Splits.{YieldsList-from_shown_while}
use Rattle.std.proofs.lemmas.Fn.{always_returns_same}
use Rattle.std.specs.Fn.{CalledAt, ComputesKey}
use Rattle.std.specs.List.{onto_first, IsFirstMatchOrLen}
use Rattle.std.specs.Slice.Iter.{split_inclusive_rest, split_inclusive_callee}
use Rattle.std.specs.declared.slice.SplitInclusive.{SplitInclusive}
use Rattle.std.proofs.lemmas.Bool.Decides.{nat_tests}
use Rattle.std.specs.Option.{ok_or}
use denote.Param.Members.{Mut}
use denote.Ref.{Bor}
use Rattle.refusal.specs.declared.kinds.Refusal.TheVariants.{Garbled}

-- a text cut after each line feed
abbrev pub fed : List ℕ → List (List ℕ)
fed [] = []
fed (x ∷ xs) = cond (eqb x 10) ((x ∷ []) ∷ fed xs) (onto_first x (fed xs))

fed_more : (x : ℕ) (xs : List ℕ) → eqb x 10 ≡ false → fed (x ∷ xs) ≡ onto_first x (fed xs)
fed_more x xs other = rw other

fed_first : (x rest : List ℕ) (i : ℕ) → 0 < length (x ++ rest) → length x ≡ min (i + 1) (length (x ++ rest)) → IsFirstMatchOrLen (λ b. eqb b 10) (x ++ rest) i → fed (x ++ rest) ≡ x ∷ fed rest
fed_first [] rest i some long first = absurd (omega arith)
fed_first (c ∷ []) rest zero some long first = let is : eqb c 10 ≡ true = first.1 (omega arith) 0 in rw is
fed_first (c ∷ d ∷ ds) rest zero some long first = absurd (omega arith)
fed_first (c ∷ []) [] (suc i) some long first = fed_more c [] (first.0 0 0 (omega arith) (omega arith))
fed_first (c ∷ []) (d ∷ ds) (suc i) some long first = absurd (omega arith)
fed_first (c ∷ d ∷ ds) rest (suc i) some long first =
    fed_more c (d ∷ (ds ++ rest)) (first.0 0 0 (omega arith) (omega arith))
    ∙ ap (onto_first c) (fed_first (d ∷ ds) rest i (omega arith) (omega arith) (λ k e low high. first.0 (suc k) e (omega arith) (omega arith), λ low e. first.1 (omega arith) e))

-- what a step of split_inclusive gives
abbrev split_steps : {F : Type 0} → Mut F (Bor ℕ × Unit {0}) Bool → SplitInclusive ℕ F → Option (Bor (List ℕ)) → SplitInclusive ℕ F → Type 0
split_steps g s r t = MatchOption r ((length (split_inclusive_rest s) ≡ 0) × (t ≡ s)) (λ x. (split_inclusive_rest s ≡ x.now ++ split_inclusive_rest t) × ((i : ℕ) × (length x.now ≡ min (i + 1) (length (split_inclusive_rest s))) × ((p : ℕ → Bool) → ComputesKey g p (split_inclusive_callee s) → ComputesKey g p (split_inclusive_callee t) × IsFirstMatchOrLen p (split_inclusive_rest s) i)) × (0 < length (split_inclusive_rest s)))

fed_step : (text x rest : List ℕ) (i : ℕ) → text ≡ x ++ rest → 0 < length text → length x ≡ min (i + 1) (length text) → IsFirstMatchOrLen (λ b. eqb b 10) text i → fed text ≡ x ∷ fed rest
fed_step text x rest i e some long first = ap fed e ∙ fed_first x rest i (subst (λ t. 0 < length t) e some) (subst (λ t. length x ≡ min (i + 1) (length t)) e long) (subst (λ t. IsFirstMatchOrLen (λ b. eqb b 10) t i) e first)

fed_none : (text : List ℕ) → length text ≡ 0 → length (fed text) ≡ 0
fed_none [] none = refl
fed_none (x ∷ xs) none = absurd (omega arith)

pub fed_by_split : {F : Type 0} {s : _} (g : Mut F (Bor ℕ × Unit {0}) Bool) {f : F} (text : List ℕ) → split_inclusive_rest s ≡ text → split_inclusive_callee s ≡ f → ((x : ℕ) (b : Bool) (q : F) → CalledAt g f x b q → (q ≡ f) × (b ≡ eqb x 10)) → YieldsList (split_steps g) (λ x. x.now) s (fed text)
fed_by_split {s = s} g {f} text rest closure tests =
    subst (λ t. YieldsList (split_steps g) (λ x. x.now) s (fed t)) rest
    (YieldsList-from_shown_while (split_steps g) (λ x. x.now) (λ t. fed (split_inclusive_rest t)) (λ t. ComputesKey g (λ b. eqb b 10) (split_inclusive_callee t))
    (λ t u h k. fed_none (split_inclusive_rest t) k.0)
    (λ t x u h k. let m = k.1.2 (λ b. eqb b 10) h in (m.0, fed_step (split_inclusive_rest t) x.now (split_inclusive_rest u) k.1.0 k.0 k.2 k.1.1 m.1))
    s (subst (ComputesKey g (λ b. eqb b 10)) (sym closure) (always_returns_same g (λ a r. r ≡ eqb a.0.now 10) f (λ a r q k. let m = tests a.0.now r q (record { shown = a.0; shows = refl; called = k }) in (m.1, m.0)))))

cond_onto : (x : ℕ) (b : Bool) (xs ys : List ℕ) → cond b (x ∷ xs) (x ∷ ys) ≡ x ∷ cond b xs ys
cond_onto x true xs ys = refl
cond_onto x false xs ys = refl

without_feed_more : (x : ℕ) (xs : List ℕ) → eqb x 10 ≡ false → without_feed (x ∷ xs) ≡ x ∷ without_feed xs
without_feed_more x [] other = rw other
without_feed_more x (y ∷ ys) other =
    let e : suc (suc (length ys)) - 1 ≡ suc (length ys) = omega arith in
    let f : suc (length ys) - 1 ≡ length ys = omega arith in
    let p : ltb 0 (suc (suc (length ys))) ≡ true = grind (arith, nat_tests) in
    let q : ltb 0 (suc (length ys)) ≡ true = grind (arith, nat_tests) in
    rw (e, f, p, q) (cond_onto x (eqb (get_or (y ∷ ys) (length ys) 0) 10) (take (length ys) (y ∷ ys)) (y ∷ ys))

-- cut after each line feed, and without line feeds, a text is its lines
lines_onto : (x : ℕ) (xs : List ℕ) → x ≢ 10 → (l : List ℕ) (ls : List (List ℕ)) → Lines xs (l ∷ ls) → Lines (x ∷ xs) ((x ∷ l) ∷ ls)
lines_onto x xs other l ls (u, inl (rest, e, h)) = ((other, u), inl (rest, ap (λ t. x ∷ t) e, h))
lines_onto x xs other l ls (u, inr (e, some, h)) = ((other, u), inr (ap (λ t. x ∷ t) e, omega arith, h))

lines_fed_step : (x : ℕ) (xs : List ℕ) (b : Bool) → eqb x 10 ≡ b → (ps : List (List ℕ)) → Lines xs (map without_feed ps) → Lines (x ∷ xs) (map without_feed (cond b ((x ∷ []) ∷ ps) (onto_first x ps)))
lines_fed_step x xs true is ps h = subst (λ (y : ℕ). Lines (y ∷ xs) (without_feed (y ∷ []) ∷ map without_feed ps)) (sym (eqb-true x 10 is)) (tt, inl (xs, refl, h))
lines_fed_step x xs false other [] h = rw (without_feed_more x [] other) ((eqb-false x 10 other, tt), inr (ap (λ t. x ∷ t) h, omega arith, refl))
lines_fed_step x xs false other (p ∷ ps) h = rw (without_feed_more x p other) (lines_onto x xs (eqb-false x 10 other) (without_feed p) (map without_feed ps) h)

lines_fed : (text : List ℕ) → Lines text (map without_feed (fed text))
lines_fed [] = refl
lines_fed (x ∷ xs) = lines_fed_step x xs (eqb x 10) refl (fed xs) (lines_fed xs)

-- and back
cut_unbroken : (l rest : List ℕ) → Unbroken l → cut_at 10 (l ++ 10 ∷ rest) ≡ Some (l, rest)
unfolding cut_at
cut_unbroken [] rest u = refl
cut_unbroken (x ∷ xs) rest (other, u) = rw (ne_eqb x 10 other, cut_unbroken xs rest u)

uncut : (l : List ℕ) → Unbroken l → cut_at 10 l ≡ None
unfolding cut_at
uncut [] u = refl
uncut (x ∷ xs) (other, u) = rw (ne_eqb x 10 other, uncut xs u)

not_empty : (l rest : List ℕ) → ◌≡◌ {A = List ℕ} [] (l ++ 10 ∷ rest) → ⊥
not_empty [] rest e = let z : ◌≡◌ {A = ℕ} 0 1 = cc in omega arith
not_empty (x ∷ xs) rest e = let z : ◌≡◌ {A = ℕ} 0 1 = cc in omega arith

-- an empty input has no line
lines_empty : (ms : List (List ℕ)) → Lines [] ms → ms ≡ []
lines_empty [] h = refl
lines_empty (l ∷ ls) (u, inl (rest, e, h)) = absurd (not_empty l rest e)
lines_empty (l ∷ ls) (u, inr (e, some, h)) = absurd (omega (arith, ap length e))

-- a line is decoded as the command that is read, and as nothing else
abbrev pub decoded : List ℕ → Result Command Refusal
decoded line = ok_or (command_of line) Garbled

none_read : (line : List ℕ) (o : Option Command) → command_of line ≡ o → ((c : Command) → Spells c line → ⊥) → ◌≡◌ {A = Result Command Refusal} (Err Garbled) (ok_or o Garbled)
none_read line None is none = refl
none_read line (Some c) is none = absurd (none c (command_from line c is))

pub decoded_once : (line : List ℕ) (d : Result Command Refusal) → Decodes line d → d ≡ decoded line
decoded_once line (Ok c) h = ap (λ o. ok_or o Garbled) (sym (command_to c line h))
decoded_once line (Err x) (same, none) = ap Err same ∙ none_read line (command_of line) refl none

all_decode : (ps : List (List ℕ)) → AllDecode (map without_feed ps) (map (λ p. decoded (without_feed p)) ps)
all_decode [] = tt
all_decode (p ∷ ps) = (decodes_read (without_feed p) (command_of (without_feed p)) refl, all_decode ps)

pub decodes_fed : (text : List ℕ) (ds : List (Result Command Refusal)) → ds ≡ map (λ p. decoded (without_feed p)) (fed text) → DecodesAll text ds
decodes_fed text ds e = record { lines = map without_feed (fed text); split = lines_fed text; each = subst (AllDecode (map without_feed (fed text))) (sym e) (all_decode (fed text)) }

one_split_by : (l m rest more : List ℕ) → ◌≡◌ {A = Option (List ℕ × List ℕ)} (Some (l, rest)) (Some (m, more)) → (l ≡ m) × (rest ≡ more)
one_split_by l m rest more e = (ap (λ (p : List ℕ × List ℕ). p.0) (same_Some _ _ e), ap (λ (p : List ℕ × List ℕ). p.1) (same_Some _ _ e))

pub one_split : OneSplit
one_split input [] ms e h = sym (lines_empty ms (subst (λ (t : List ℕ). Lines t ms) e h))
one_split input (l ∷ ls) [] h e = lines_empty (l ∷ ls) (subst (λ (t : List ℕ). Lines t (l ∷ ls)) e h)
one_split input (l ∷ ls) (m ∷ ms) (u, inl (rest, e, h)) (v, inl (more, f, k)) =
    let same = one_split_by l m rest more (sym (ap (cut_at 10) e ∙ cut_unbroken l rest u) ∙ (ap (cut_at 10) f ∙ cut_unbroken m more v)) in
    ap (λ (x : List ℕ). x ∷ ls) same.0 ∙ ap (λ (xs : List (List ℕ)). m ∷ xs) (one_split rest ls ms h (subst (λ (t : List ℕ). Lines t ms) (sym same.1) k))
one_split input (l ∷ ls) (m ∷ ms) (u, inl (rest, e, h)) (v, inr (f, some, k)) =
    absurd (none-some _ (sym (ap (cut_at 10) f ∙ uncut m v) ∙ (ap (cut_at 10) e ∙ cut_unbroken l rest u)))
one_split input (l ∷ ls) (m ∷ ms) (u, inr (e, some, h)) (v, inl (more, f, k)) =
    absurd (none-some _ (sym (ap (cut_at 10) e ∙ uncut l u) ∙ (ap (cut_at 10) f ∙ cut_unbroken m more v)))
one_split input (l ∷ ls) (m ∷ ms) (u, inr (e, some, h)) (v, inr (f, any, k)) =
    ap (λ (x : List ℕ). x ∷ ls) (sym e ∙ f) ∙ ap (λ (xs : List (List ℕ)). m ∷ xs) (h ∙ sym k)
