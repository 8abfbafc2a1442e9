-- Lines served one after another, window by window.
use Rattle.std.proofs.Common.{◌≡◌, ℕ, ◌<◌, List, [], ◌∷◌, ◌++◌, length, get_or, take, None, ControlFlow, Continue, Break, Ok, Err, Option, sym, refl, ap, ◌∙◌, subst, inl, inr}
use Rattle.std.proofs.lemmas.List.{length_push, take_more}
use Rattle.plain.specs.declared.Plain.{Plain as PlainOf}
use Rattle.refusal.specs.declared.kinds.Refusal.{Refusal}
use Rattle.refusal.specs.declared.kinds.Refusal.TheVariants.{Modulus, Garbled}
use Rattle.plain.specs.Residues.{residues}
use Rattle.split.specs.Shares.{split}
use Rattle.system.specs.declared.residues.System.{System as SystemOf}
use Rattle.system.specs.Meant.{meant}
use Rattle.states.specs.declared.State.{State}
use Rattle.states.specs.declared.State.TheVariants.{Idle}
use Rattle.states.specs.Step.{Pairs, Declined}
use Rattle.command.specs.declared.kinds.Choice.{Choice}
use Rattle.command.specs.declared.kinds.Choice.TheVariants.{Plain as PlainChoice, System as SystemChoice, Split as SplitChoice}
use Rattle.command.specs.declared.kinds.Command.TheVariants.{Choose, Plan, Load, Begin, Advance, Line, Restart}
use Rattle.session.specs.declared.schemes.Chosen.{Chosen}
use Rattle.session.specs.declared.schemes.Chosen.TheVariants.{Plain, System, Split}
use Rattle.session.specs.declared.serving.Session.{Session}
use Rattle.session.specs.Session.{Decoded, Answer, Console, absent, plain, system, shared, Turn, Turns}
use Rattle.session.specs.Serving.{Makes, Embeds, ReadyFor, ServedFrom, ServedUnder, Choosing, TurningAbsent}

-- one line more
turns_more : (w v u : Console) (ds : List Decoded) (rs : List Answer) (d : Decoded) (a : Answer) → Turns w ds rs v → Turn v d a u → Turns w (ds ++ d ∷ []) (rs ++ a ∷ []) u
turns_more w v u [] [] d a e t = (u, subst (λ (x : Console). Turn x d a u) (sym e) t, refl)
turns_more w v u [] (b ∷ rs) d a h t = absurd h
turns_more w v u (e ∷ ds) [] d a h t = absurd h
turns_more w v u (e ∷ ds) (b ∷ rs) d a (x, s, h) t = (x, s, turns_more x v u ds rs d a h t)

-- one line more of those that have no answer yet
pub turns_next : (w v u : Console) (ds : List Decoded) (rs : List Answer) (d : Decoded) (a : Answer) → length rs < length ds → get_or ds (length rs) d ≡ d → Turns w (take (length rs) ds) rs v → Turn v d a u → Turns w (take (length (rs ++ a ∷ [])) ds) (rs ++ a ∷ []) u
turns_next w v u ds rs d a low is h t =
    let taken : take (length (rs ++ a ∷ [])) ds ≡ take (length rs) ds ++ d ∷ [] = ap (λ (n : ℕ). take n ds) (length_push rs a) ∙ (take_more ds (length rs) d low ∙ ap (λ (x : Decoded). take (length rs) ds ++ x ∷ []) is) in
    subst (λ (xs : List Decoded). Turns w xs (rs ++ a ∷ []) u) (sym taken) (turns_more w v u (take (length rs) ds) rs d a h t)

-- a scheme is chosen
pub ready_chosen : (w v : Console) (ds : List Decoded) (rs : List Answer) (c : Choice) (s : Chosen) → length rs < length ds → get_or ds (length rs) (Ok (Choose c)) ≡ Ok (Choose c) → Makes c s → Turns w (take (length rs) ds) rs v → ReadyFor w ds (rs ++ Ok None ∷ []) s
ready_chosen w v ds rs (PlainChoice n) (Plain p) low is (lawful, e) h =
    λ start long. turns_next w v (plain p.modulus.n Idle start) ds rs (Ok (Choose (PlainChoice n))) (Ok None) low is h (inl (lawful, refl, (start, long, ap (λ (k : ℕ). plain k Idle start) e)))
ready_chosen w v ds rs (PlainChoice n) (System s) low is made h = absurd made
ready_chosen w v ds rs (PlainChoice n) (Split p) low is made h = absurd made
ready_chosen w v ds rs (SystemChoice p q r) (Plain x) low is made h = absurd made
ready_chosen w v ds rs (SystemChoice p q r) (System s) low is made h =
    λ start long. turns_next w v (system s Idle start) ds rs (Ok (Choose (SystemChoice p q r))) (Ok None) low is h (inl (made.lawful, refl, (s, made, start, long, refl)))
ready_chosen w v ds rs (SystemChoice p q r) (Split x) low is made h = absurd made
ready_chosen w v ds rs (SplitChoice n) (Plain p) low is made h = absurd made
ready_chosen w v ds rs (SplitChoice n) (System s) low is made h = absurd made
ready_chosen w v ds rs (SplitChoice n) (Split p) low is (lawful, e) h =
    λ start long. turns_next w v (shared p.modulus.n Idle start) ds rs (Ok (Choose (SplitChoice n))) (Ok None) low is h (inl (lawful, refl, (start, long, ap (λ (k : ℕ). shared k Idle start) e)))

-- windows under each scheme are held by the console
declined_turn : {N : Type 0} (held : State → Pairs N → Console) (x : Refusal) (st : State) (bl : Pairs N) (a : Answer) (st' : State) (bl' : Pairs N) → Declined x st bl a st' bl' → (a ≡ Err x) × (held st' bl' ≡ held st bl)
declined_turn {N} held x st bl a st' bl' h = (h.answer, ap (λ (s : State). held s bl') h.after ∙ ap (λ (b : Pairs N). held st b) h.holds)

pub plain_held : (n : ℕ) → Embeds (residues n) (plain n)
plain_held n st bl (Err x) a st' bl' h = declined_turn (plain n) Garbled st bl a st' bl' h
plain_held n st bl (Ok (Choose c)) a st' bl' (unlawful, h) = let e = declined_turn (plain n) Modulus st bl a st' bl' h in inr (unlawful, e.0, e.1)
plain_held n st bl (Ok (Plan k size q1 q2)) a st' bl' h = (st', bl', h, refl)
plain_held n st bl (Ok (Load i z words)) a st' bl' h = (st', bl', h, refl)
plain_held n st bl (Ok Begin) a st' bl' h = (st', bl', h, refl)
plain_held n st bl (Ok Advance) a st' bl' h = (st', bl', h, refl)
plain_held n st bl (Ok (Line k)) a st' bl' h = (st', bl', h, refl)
plain_held n st bl (Ok Restart) a st' bl' h = (st', bl', h, refl)

pub system_held : (s : SystemOf) → Embeds (meant s) (system s)
system_held s st bl (Err x) a st' bl' h = declined_turn (system s) Garbled st bl a st' bl' h
system_held s st bl (Ok (Choose c)) a st' bl' (unlawful, h) = let e = declined_turn (system s) Modulus st bl a st' bl' h in inr (unlawful, e.0, e.1)
system_held s st bl (Ok (Plan k size q1 q2)) a st' bl' h = (st', bl', h, refl)
system_held s st bl (Ok (Load i z words)) a st' bl' h = (st', bl', h, refl)
system_held s st bl (Ok Begin) a st' bl' h = (st', bl', h, refl)
system_held s st bl (Ok Advance) a st' bl' h = (st', bl', h, refl)
system_held s st bl (Ok (Line k)) a st' bl' h = (st', bl', h, refl)
system_held s st bl (Ok Restart) a st' bl' h = (st', bl', h, refl)

pub shared_held : (n : ℕ) → Embeds (split (residues n)) (shared n)
shared_held n st bl (Err x) a st' bl' h = declined_turn (shared n) Garbled st bl a st' bl' h
shared_held n st bl (Ok (Choose c)) a st' bl' (unlawful, h) = let e = declined_turn (shared n) Modulus st bl a st' bl' h in inr (unlawful, e.0, e.1)
shared_held n st bl (Ok (Plan k size q1 q2)) a st' bl' h = (st', bl', h, refl)
shared_held n st bl (Ok (Load i z words)) a st' bl' h = (st', bl', h, refl)
shared_held n st bl (Ok Begin) a st' bl' h = (st', bl', h, refl)
shared_held n st bl (Ok Advance) a st' bl' h = (st', bl', h, refl)
shared_held n st bl (Ok (Line k)) a st' bl' h = (st', bl', h, refl)
shared_held n st bl (Ok Restart) a st' bl' h = (st', bl', h, refl)

-- a choice
pub chosen_absent : (d : Decoded) (c : Choice) (r : ControlFlow Chosen Answer) → d ≡ Ok (Choose c) → Choosing c r → TurningAbsent d r
chosen_absent d c (Continue a) is (unlawful, e) = subst (λ (y : Decoded). Turn absent y a absent) (sym is) (inr (unlawful, e, refl))
chosen_absent d c (Break s) is made = (c, is, made)

-- from a new window under the chosen scheme on
pub under_plain : (s : Chosen) (p : PlainOf) → s ≡ Plain p → (before after : Session) (next : Option Chosen) → ServedFrom (residues p.modulus.n) before after next → ServedUnder s before after next
under_plain s p e before after next h = subst (λ (x : Chosen). ServedUnder x before after next) (sym e) (record { lines = h.lines; served = λ w ready. h.served w (plain p.modulus.n) (plain_held p.modulus.n) ready; more = h.more })

pub under_system : (s : Chosen) (y : SystemOf) → s ≡ System y → (before after : Session) (next : Option Chosen) → ServedFrom (meant y) before after next → ServedUnder s before after next
under_system s y e before after next h = subst (λ (x : Chosen). ServedUnder x before after next) (sym e) (record { lines = h.lines; served = λ w ready. h.served w (system y) (system_held y) ready; more = h.more })

pub under_split : (s : Chosen) (p q : PlainOf) → s ≡ Split p → q ≡ p → (before after : Session) (next : Option Chosen) → ServedFrom (split (residues q.modulus.n)) before after next → ServedUnder s before after next
under_split s p q e f before after next h = subst (λ (x : Chosen). ServedUnder x before after next) (ap (λ (x : PlainOf). Split x) f ∙ sym e) (record { lines = h.lines; served = λ w ready. h.served w (shared q.modulus.n) (shared_held q.modulus.n) ready; more = h.more })
