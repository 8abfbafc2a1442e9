-- The command that is read is the one that is spelled.
use Rattle.std.proofs.Common.{◌≡◌, ℕ, true, cond, eqb, List, [], ◌∷◌, ◌++◌, Some, None, Option, sym, refl, ap, ◌∙◌, subst, inl, inr, eqb-true}
use Rattle.std.proofs.lemmas.Option.{none-some, same_Some}
use Rattle.std.specs.Option.{ok_or}
use Rattle.integers.specs.Complex.{complex}
use Rattle.plan.specs.declared.method.Method.{Method}
use Rattle.plan.specs.declared.method.Method.TheVariants.{Direct, Radix2, Radix4}
use Rattle.refusal.specs.declared.kinds.Refusal.TheVariants.{Garbled}
use Rattle.command.specs.declared.kinds.Choice.TheVariants.{Plain, System, Split}
use Rattle.command.specs.declared.kinds.Command.{Command}
use Rattle.command.specs.declared.kinds.Command.TheVariants.{Choose, Plan, Load, Begin, Advance, Line, Restart}
use Rattle.command.specs.Fields.{cut_at, letter_of, letter_and_rest, numeral_of, number_and_rest, whole_and_rest}
use Rattle.command.specs.Spelling.{method_letter, Spells, SpelledOnce, Decodes}
use Rattle.command.specs.Decoding.{also, first_of, fields_of, method_of, method_by_letter, method_and_rest, alone_of, system_of, choice_by, choice_of, plan_of, load_of, line_of, command_by, command_of}
use Rattle.command.proofs.Spelled.{also_some, cond_some, letter_from, cut_from, numeral_from, numeral_to, heading_from, number_then_from, number_then_to, whole_then_from, whole_then_to}

-- what is spelled is carried along an equation between commands and lines
spelled_as : (c d : Command) (line : List ℕ) → Spells c line → c ≡ d → Spells d line
spelled_as c d line h e = subst (λ (x : Command). Spells x line) e h

-- the letter of a method
method_from : (c : ℕ) (k : Method) → method_of c ≡ Some k → c ∷ [] ≡ method_letter k
method_from c k e = elim (cond_some (eqb c 100) (Some Direct) (cond (eqb c 50) (Some Radix2) (cond (eqb c 52) (Some Radix4) None)) k e) [ inl h ↦ letter Direct 100 h.0 h.1 refl | inr h ↦ elim (cond_some (eqb c 50) (Some Radix2) (cond (eqb c 52) (Some Radix4) None) k h) [ inl h ↦ letter Radix2 50 h.0 h.1 refl | inr h ↦ elim (cond_some (eqb c 52) (Some Radix4) None k h) [ inl h ↦ letter Radix4 52 h.0 h.1 refl | inr h ↦ absurd (none-some _ h) ] ] ]
  where
    letter : (m : Method) (x : ℕ) → eqb c x ≡ true → ◌≡◌ {A = Option Method} (Some m) (Some k) → x ∷ [] ≡ method_letter m → c ∷ [] ≡ method_letter k
    letter m x is e same = ap (λ y. y ∷ []) (eqb-true c x is) ∙ (same ∙ ap method_letter (same_Some _ _ e))

-- three moduli
system_from : (text : List ℕ) (c : Command) → system_of text ≡ Some c → Spells c (115 ∷ 44 ∷ 121 ∷ 44 ∷ text)
unfolding system_of
system_from text c e =
    let p = also_some (number_and_rest text) (λ a. also (number_and_rest a.1) (λ b. also (numeral_of b.1) (λ r. Some (Choose (System a.0 b.0 r))))) c e in
    let q = also_some (number_and_rest p.0.1) (λ b. also (numeral_of b.1) (λ r. Some (Choose (System p.0.0 b.0 r)))) c p.2 in
    let r = also_some (numeral_of q.0.1) (λ r. Some (Choose (System p.0.0 q.0.0 r))) c q.2 in
    let one = number_then_from text p.0 p.1 in
    let two = number_then_from p.0.1 q.0 q.1 in
    let three = numeral_from q.0.1 r.0 r.1 in
    let whole : text ≡ one.0 ++ 44 ∷ (two.0 ++ 44 ∷ q.0.1) = one.2 ∙ ap (λ (t : List ℕ). one.0 ++ 44 ∷ t) two.2 in
    spelled_as (Choose (System p.0.0 q.0.0 r.0)) c (115 ∷ 44 ∷ 121 ∷ 44 ∷ text) (one.0, two.0, q.0.1, one.1, two.1, three, ap (λ (t : List ℕ). 115 ∷ 44 ∷ 121 ∷ 44 ∷ t) whole) (same_Some _ _ r.2)

plain_from : (text : List ℕ) (c : Command) → also (numeral_of text) (λ n. Some (Choose (Plain n))) ≡ Some c → Spells c (115 ∷ 44 ∷ 114 ∷ 44 ∷ text)
plain_from text c e =
    let n = also_some (numeral_of text) (λ n. Some (Choose (Plain n))) c e in
    spelled_as (Choose (Plain n.0)) c (115 ∷ 44 ∷ 114 ∷ 44 ∷ text) (text, numeral_from text n.0 n.1, refl) (same_Some _ _ n.2)

split_from : (text : List ℕ) (c : Command) → also (numeral_of text) (λ n. Some (Choose (Split n))) ≡ Some c → Spells c (115 ∷ 44 ∷ 112 ∷ 44 ∷ text)
split_from text c e =
    let n = also_some (numeral_of text) (λ n. Some (Choose (Split n))) c e in
    spelled_as (Choose (Split n.0)) c (115 ∷ 44 ∷ 112 ∷ 44 ∷ text) (text, numeral_from text n.0 n.1, refl) (same_Some _ _ n.2)

choice_by_lem : (kind : ℕ) (text : List ℕ) (c : Command) → choice_by kind text ≡ Some c → Spells c (115 ∷ 44 ∷ kind ∷ 44 ∷ text)
unfolding choice_by
choice_by_lem kind text c e = elim (cond_some (eqb kind 114) (also (numeral_of text) (λ n. Some (Choose (Plain n)))) (cond (eqb kind 121) (system_of text) (cond (eqb kind 112) (also (numeral_of text) (λ n. Some (Choose (Split n)))) None)) c e) [ inl h ↦ at 114 h.0 (plain_from text c h.1) | inr h ↦ elim (cond_some (eqb kind 121) (system_of text) (cond (eqb kind 112) (also (numeral_of text) (λ n. Some (Choose (Split n)))) None) c h) [ inl h ↦ at 121 h.0 (system_from text c h.1) | inr h ↦ elim (cond_some (eqb kind 112) (also (numeral_of text) (λ n. Some (Choose (Split n)))) None c h) [ inl h ↦ at 112 h.0 (split_from text c h.1) | inr h ↦ absurd (none-some _ h) ] ] ]
  where
    at : (x : ℕ) → eqb kind x ≡ true → Spells c (115 ∷ 44 ∷ x ∷ 44 ∷ text) → Spells c (115 ∷ 44 ∷ kind ∷ 44 ∷ text)
    at x is h = subst (λ (y : ℕ). Spells c (115 ∷ 44 ∷ y ∷ 44 ∷ text)) (sym (eqb-true kind x is)) h

choice_from : (text : List ℕ) (c : Command) → choice_of text ≡ Some c → Spells c (115 ∷ 44 ∷ text)
unfolding choice_of letter_and_rest
choice_from text c e =
    let k = also_some (letter_and_rest text) (λ kind. choice_by kind.0 kind.1) c e in
    let found = heading_from letter_of text k.0 k.1 in
    let whole : text ≡ k.0.0 ∷ 44 ∷ k.0.1 = found.2 ∙ ap (λ (a : List ℕ). a ++ 44 ∷ k.0.1) (letter_from found.0 k.0.0 found.1) in
    subst (λ (t : List ℕ). Spells c (115 ∷ 44 ∷ t)) (sym whole) (choice_by_lem k.0.0 k.0.1 c k.2)

plan_from : (text : List ℕ) (c : Command) → plan_of text ≡ Some c → Spells c (112 ∷ 44 ∷ text)
unfolding plan_of method_and_rest
plan_from text c e =
    let k = also_some (method_and_rest text) (λ k. also (number_and_rest k.1) (λ a. also (number_and_rest a.1) (λ b. also (numeral_of b.1) (λ q. Some (Plan k.0 a.0 b.0 q))))) c e in
    let a = also_some (number_and_rest k.0.1) (λ a. also (number_and_rest a.1) (λ b. also (numeral_of b.1) (λ q. Some (Plan k.0.0 a.0 b.0 q)))) c k.2 in
    let b = also_some (number_and_rest a.0.1) (λ b. also (numeral_of b.1) (λ q. Some (Plan k.0.0 a.0.0 b.0 q))) c a.2 in
    let q = also_some (numeral_of b.0.1) (λ q. Some (Plan k.0.0 a.0.0 b.0.0 q)) c b.2 in
    let named = heading_from method_by_letter text k.0 k.1 in
    let x = also_some (letter_of named.0) method_of k.0.0 named.1 in
    let one = number_then_from k.0.1 a.0 a.1 in
    let two = number_then_from a.0.1 b.0 b.1 in
    let three = numeral_from b.0.1 q.0 q.1 in
    let method : named.0 ≡ method_letter k.0.0 = letter_from named.0 x.0 x.1 ∙ method_from x.0 k.0.0 x.2 in
    let rest : k.0.1 ≡ one.0 ++ 44 ∷ (two.0 ++ 44 ∷ b.0.1) = one.2 ∙ ap (λ (t : List ℕ). one.0 ++ 44 ∷ t) two.2 in
    let whole : text ≡ method_letter k.0.0 ++ 44 ∷ (one.0 ++ 44 ∷ (two.0 ++ 44 ∷ b.0.1)) = named.2 ∙ (ap (λ (t : List ℕ). t ++ 44 ∷ k.0.1) method ∙ ap (λ (t : List ℕ). method_letter k.0.0 ++ 44 ∷ t) rest) in
    spelled_as (Plan k.0.0 a.0.0 b.0.0 q.0) c (112 ∷ 44 ∷ text) (one.0, two.0, b.0.1, one.1, two.1, three, ap (λ (t : List ℕ). 112 ∷ 44 ∷ t) whole) (same_Some _ _ q.2)

load_from : (text : List ℕ) (c : Command) → load_of text ≡ Some c → Spells c (108 ∷ 44 ∷ text)
unfolding load_of
load_from text c e =
    let n = also_some (number_and_rest text) (λ n. also (whole_and_rest n.1) (λ x. also (whole_and_rest x.1) (λ y. also (number_and_rest y.1) (λ a. also (numeral_of a.1) (λ b. Some (Load n.0 (complex x.0 y.0) (a.0, b))))))) c e in
    let x = also_some (whole_and_rest n.0.1) (λ x. also (whole_and_rest x.1) (λ y. also (number_and_rest y.1) (λ a. also (numeral_of a.1) (λ b. Some (Load n.0.0 (complex x.0 y.0) (a.0, b)))))) c n.2 in
    let y = also_some (whole_and_rest x.0.1) (λ y. also (number_and_rest y.1) (λ a. also (numeral_of a.1) (λ b. Some (Load n.0.0 (complex x.0.0 y.0) (a.0, b))))) c x.2 in
    let a = also_some (number_and_rest y.0.1) (λ a. also (numeral_of a.1) (λ b. Some (Load n.0.0 (complex x.0.0 y.0.0) (a.0, b)))) c y.2 in
    let b = also_some (numeral_of a.0.1) (λ b. Some (Load n.0.0 (complex x.0.0 y.0.0) (a.0.0, b))) c a.2 in
    let number = number_then_from text n.0 n.1 in
    let re = whole_then_from n.0.1 x.0 x.1 in
    let im = whole_then_from x.0.1 y.0 y.1 in
    let first = number_then_from y.0.1 a.0 a.1 in
    let second = numeral_from a.0.1 b.0 b.1 in
    let from_im : x.0.1 ≡ im.0 ++ 44 ∷ (first.0 ++ 44 ∷ a.0.1) = im.2 ∙ ap (λ (t : List ℕ). im.0 ++ 44 ∷ t) first.2 in
    let from_re : n.0.1 ≡ re.0 ++ 44 ∷ (im.0 ++ 44 ∷ (first.0 ++ 44 ∷ a.0.1)) = re.2 ∙ ap (λ (t : List ℕ). re.0 ++ 44 ∷ t) from_im in
    let whole : text ≡ number.0 ++ 44 ∷ (re.0 ++ 44 ∷ (im.0 ++ 44 ∷ (first.0 ++ 44 ∷ a.0.1))) = number.2 ∙ ap (λ (t : List ℕ). number.0 ++ 44 ∷ t) from_re in
    spelled_as (Load n.0.0 (complex x.0.0 y.0.0) (a.0.0, b.0)) c (108 ∷ 44 ∷ text) (record { number = number.0; re = re.0; im = im.0; first = first.0; second = a.0.1; numbered = number.1; real = re.1; imaginary = im.1; one = first.1; two = second; whole = ap (λ (t : List ℕ). 108 ∷ 44 ∷ t) whole }) (same_Some _ _ b.2)

line_from_lem : (text : List ℕ) (c : Command) → line_of text ≡ Some c → Spells c (103 ∷ 44 ∷ text)
line_from_lem text c e =
    let k = also_some (numeral_of text) (λ k. Some (Line k)) c e in
    spelled_as (Line k.0) c (103 ∷ 44 ∷ text) (text, numeral_from text k.0 k.1, refl) (same_Some _ _ k.2)

-- a letter and the fields after it, as a line
abbrev line_from : ℕ → Option (List ℕ) → List ℕ
line_from x None = x ∷ []
line_from x (Some text) = x ∷ 44 ∷ text

-- a command without fields
single_from : (x : ℕ) (d : Command) (rest : Option (List ℕ)) (c : Command) → alone_of d rest ≡ Some c → Spells d (x ∷ []) → Spells c (line_from x rest)
single_from x d None c e h = spelled_as d c (x ∷ []) h (same_Some _ _ e)
single_from x d (Some text) c e h = absurd (none-some _ e)

-- a command with fields
fields_from : (x : ℕ) (reads : List ℕ → Option Command) → ((text : List ℕ) (c : Command) → reads text ≡ Some c → Spells c (x ∷ 44 ∷ text)) → (rest : Option (List ℕ)) (c : Command) → also rest reads ≡ Some c → Spells c (line_from x rest)
fields_from x reads each None c e = absurd (none-some _ e)
fields_from x reads each (Some text) c e = each text c e

-- the letters after each letter
abbrev after_g : ℕ → Option (List ℕ) → Option Command
after_g x rest = cond (eqb x 114) (alone_of Restart rest) None

abbrev after_a : ℕ → Option (List ℕ) → Option Command
after_a x rest = cond (eqb x 103) (also rest line_of) (after_g x rest)

abbrev after_b : ℕ → Option (List ℕ) → Option Command
after_b x rest = cond (eqb x 97) (alone_of Advance rest) (after_a x rest)

abbrev after_l : ℕ → Option (List ℕ) → Option Command
after_l x rest = cond (eqb x 98) (alone_of Begin rest) (after_b x rest)

abbrev after_p : ℕ → Option (List ℕ) → Option Command
after_p x rest = cond (eqb x 108) (also rest load_of) (after_l x rest)

abbrev after_s : ℕ → Option (List ℕ) → Option Command
after_s x rest = cond (eqb x 112) (also rest plan_of) (after_p x rest)

command_by_lem : (x : ℕ) (rest : Option (List ℕ)) (c : Command) → command_by x rest ≡ Some c → Spells c (line_from x rest)
unfolding command_by
command_by_lem x rest c e = elim (cond_some (eqb x 115) (also rest choice_of) (after_s x rest) c e) [ inl h ↦ at 115 h.0 (fields_from 115 choice_of choice_from rest c h.1) | inr h ↦ elim (cond_some (eqb x 112) (also rest plan_of) (after_p x rest) c h) [ inl h ↦ at 112 h.0 (fields_from 112 plan_of plan_from rest c h.1) | inr h ↦ elim (cond_some (eqb x 108) (also rest load_of) (after_l x rest) c h) [ inl h ↦ at 108 h.0 (fields_from 108 load_of load_from rest c h.1) | inr h ↦ elim (cond_some (eqb x 98) (alone_of Begin rest) (after_b x rest) c h) [ inl h ↦ at 98 h.0 (single_from 98 Begin rest c h.1 refl) | inr h ↦ elim (cond_some (eqb x 97) (alone_of Advance rest) (after_a x rest) c h) [ inl h ↦ at 97 h.0 (single_from 97 Advance rest c h.1 refl) | inr h ↦ elim (cond_some (eqb x 103) (also rest line_of) (after_g x rest) c h) [ inl h ↦ at 103 h.0 (fields_from 103 line_of line_from_lem rest c h.1) | inr h ↦ elim (cond_some (eqb x 114) (alone_of Restart rest) None c h) [ inl h ↦ at 114 h.0 (single_from 114 Restart rest c h.1 refl) | inr h ↦ absurd (none-some _ h) ] ] ] ] ] ] ]
  where
    at : (y : ℕ) → eqb x y ≡ true → Spells c (line_from y rest) → Spells c (line_from x rest)
    at y is h = subst (λ (z : ℕ). Spells c (line_from z rest)) (sym (eqb-true x y is)) h

-- the line is its first field and what follows
line_is : (line : List ℕ) (o : Option (List ℕ × List ℕ)) → cut_at 44 line ≡ o → (x : ℕ) → letter_of (first_of line o).0 ≡ Some x → line ≡ line_from x (first_of line o).1
line_is line None is x e = letter_from line x e
line_is line (Some p) is x e = cut_from 44 line p is ∙ ap (λ (a : List ℕ). a ++ 44 ∷ p.1) (letter_from p.0 x e)

pub command_from : (line : List ℕ) (c : Command) → command_of line ≡ Some c → Spells c line
unfolding command_of
command_from line c e =
    let x = also_some (letter_of (fields_of line).0) (λ x. command_by x (fields_of line).1) c e in
    subst (λ (t : List ℕ). Spells c t) (sym (line_is line (cut_at 44 line) refl x.0 x.1)) (command_by_lem x.0 (fields_of line).1 c x.2)

-- and back: what is spelled is read
pub command_to : (c : Command) (line : List ℕ) → Spells c line → command_of line ≡ Some c
unfolding command_of command_by choice_of choice_by letter_and_rest system_of plan_of method_and_rest load_of cut_at
command_to (Choose (Plain n)) line (a, h, e) = ap command_of e ∙ (rw (numeral_to a n h))
command_to (Choose (System p q r)) line (a, b, d, one, two, three, e) = ap command_of e ∙ (rw (number_then_to a (b ++ 44 ∷ d) p one, number_then_to b d q two, numeral_to d r three))
command_to (Choose (Split n)) line (a, h, e) = ap command_of e ∙ (rw (numeral_to a n h))
command_to (Plan Direct size q1 q2) line (a, b, d, one, two, three, e) = ap command_of e ∙ (rw (number_then_to a (b ++ 44 ∷ d) size one, number_then_to b d q1 two, numeral_to d q2 three))
command_to (Plan Radix2 size q1 q2) line (a, b, d, one, two, three, e) = ap command_of e ∙ (rw (number_then_to a (b ++ 44 ∷ d) size one, number_then_to b d q1 two, numeral_to d q2 three))
command_to (Plan Radix4 size q1 q2) line (a, b, d, one, two, three, e) = ap command_of e ∙ (rw (number_then_to a (b ++ 44 ∷ d) size one, number_then_to b d q1 two, numeral_to d q2 three))
command_to (Load n z words) line h =
    ap command_of h.whole ∙ (rw (number_then_to h.number (h.re ++ 44 ∷ (h.im ++ 44 ∷ (h.first ++ 44 ∷ h.second))) n h.numbered, whole_then_to h.re (h.im ++ 44 ∷ (h.first ++ 44 ∷ h.second)) z.re h.real, whole_then_to h.im (h.first ++ 44 ∷ h.second) z.im h.imaginary, number_then_to h.first h.second words.0 h.one, numeral_to h.second words.1 h.two))
command_to Begin line e = ap command_of e
command_to Advance line e = ap command_of e
command_to (Line k) line (a, h, e) = ap command_of e ∙ (rw (numeral_to a k h))
command_to Restart line e = ap command_of e

pub spelled_once : SpelledOnce
spelled_once line c d one two = same_Some _ _ (sym (command_to c line one) ∙ command_to d line two)

-- what is read, or Garbled where nothing is, decodes the line
pub decodes_read : (line : List ℕ) (o : Option Command) → o ≡ command_of line → Decodes line (ok_or o Garbled)
decodes_read line None e = (refl, λ d spelled. none-some _ (e ∙ command_to d line spelled))
decodes_read line (Some c) e = command_from line c (sym e)
