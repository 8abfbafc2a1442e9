-- Only an accepted choice replaces a window, and a declined line changes nothing.
use Rattle.std.proofs.Common.{◌≡◌, ℕ, ◌⊎◌, Some, None, Ok, Err, Option, Result, sym, refl, ap, ◌∙◌, subst, inl, inr, arith}
use Rattle.integers.specs.declared.Complex.{Complex}
use Rattle.refusal.specs.declared.kinds.Refusal.{Refusal}
use Rattle.scheme.specs.Meaning.{Meaning}
use Rattle.plain.specs.Residues.{residues}
use Rattle.split.specs.declared.halves.Halves.{Halves}
use Rattle.split.specs.Shares.{split}
use Rattle.system.specs.declared.residues.Residues.{Residues}
use Rattle.system.specs.Meant.{meant}
use Rattle.states.specs.declared.State.{State}
use Rattle.states.specs.declared.State.TheVariants.{Idle, Filling, Running, Finished}
use Rattle.states.specs.declared.Call.{Call}
use Rattle.states.specs.declared.Call.TheVariants.{Plan as PlanCall, Load as LoadCall, Begin as BeginCall, Advance as AdvanceCall, Line as LineCall, Restart as RestartCall}
use Rattle.states.specs.declared.Line.{Line as OpenedLine}
use Rattle.states.specs.Step.{Pairs, StepBy, declined}
use Rattle.command.specs.declared.kinds.Command.{Command}
use Rattle.command.specs.declared.kinds.Command.TheVariants.{Choose, Plan, Load, Begin, Advance, Line, Restart}
use Rattle.session.specs.Session.{Decoded, Answer, Console, absent, plain, system, shared, limit_in, LoadsSealed, LoadsWithin, Does, Serves, Turn}
use Rattle.session.specs.Steady.{SameWindow, Chose, Steady}

-- a refusal is no acceptance
err_ok : {x : Refusal} {r : (Option OpenedLine)} → ◌≡◌ {A = Answer} (Err x) (Ok r) → ⊥
err_ok e = let z : ◌≡◌ {A = ℕ} 0 1 = cc in omega arith

same_itself : (w : Console) → SameWindow w w
same_itself absent = tt
same_itself (plain n st bl) = refl
same_itself (system s st bl) = refl
same_itself (shared n st bl) = refl

serves_same : (w : Console) (c : Command) (a : Answer) (w' : Console) → Serves w c a w' → SameWindow w w'
serves_same absent c a w' (e, f) = subst (λ (v : Console). SameWindow absent v) (sym f) tt
serves_same (plain n st bl) c a w' (st', bl', does, f) = subst (λ (v : Console). SameWindow (plain n st bl) v) (sym f) refl
serves_same (system s st bl) c a w' (st', bl', does, f) = subst (λ (v : Console). SameWindow (system s st bl) v) (sym f) refl
serves_same (shared n st bl) c a w' (st', bl', does, f) = subst (λ (v : Console). SameWindow (shared n st bl) v) (sym f) refl

turn_replaced : (w : Console) (d : Decoded) (a : Answer) (w' : Console) → Turn w d a w' → Chose d a ⊎ SameWindow w w'
turn_replaced w (Err x) a w' (e, f) = inr (subst (λ (v : Console). SameWindow w v) (sym f) (same_itself w))
turn_replaced w (Ok (Choose c)) a w' (inl (lawful, e, opens)) = inl (e, (c, refl))
turn_replaced w (Ok (Choose c)) a w' (inr (unlawful, e, f)) = inr (subst (λ (v : Console). SameWindow w v) (sym f) (same_itself w))
turn_replaced w (Ok (Plan k size q1 q2)) a w' t = inr (serves_same w (Plan k size q1 q2) a w' t)
turn_replaced w (Ok (Load n z words)) a w' t = inr (serves_same w (Load n z words) a w' t)
turn_replaced w (Ok Begin) a w' t = inr (serves_same w Begin a w' t)
turn_replaced w (Ok Advance) a w' t = inr (serves_same w Advance a w' t)
turn_replaced w (Ok (Line k)) a w' t = inr (serves_same w (Line k) a w' t)
turn_replaced w (Ok Restart) a w' t = inr (serves_same w Restart a w' t)

-- a declined call leaves state and block
abbrev Left : {N : Type 0} → State → Pairs N → State → Pairs N → Type 0
Left st bl st' bl' = (st' ≡ st) × (bl' ≡ bl)

step_declined : {N : Type 0} (m : Meaning N) (o : Option Refusal) (st : State) (bl : Pairs N) (c : Call N) (x : Refusal) (st' : State) (bl' : Pairs N) → StepBy o m st bl c (Err x) st' bl' → Left st bl st' bl'
step_declined m (Some y) st bl c x st' bl' h = (h.after, h.holds)
step_declined m None st bl (PlanCall k size q1 q2) x st' bl' h = absurd (err_ok h.becomes.answer)
step_declined m None Idle bl (LoadCall n y) x st' bl' h = absurd h
step_declined m None (Filling kept count) bl (LoadCall n y) x st' bl' h = absurd (err_ok h.answer)
step_declined m None (Running kept t) bl (LoadCall n y) x st' bl' h = absurd h
step_declined m None (Finished kept) bl (LoadCall n y) x st' bl' h = absurd h
step_declined m None Idle bl BeginCall x st' bl' h = absurd h
step_declined m None (Filling kept count) bl BeginCall x st' bl' h = absurd (err_ok h.answer)
step_declined m None (Running kept t) bl BeginCall x st' bl' h = absurd h
step_declined m None (Finished kept) bl BeginCall x st' bl' h = absurd h
step_declined m None Idle bl AdvanceCall x st' bl' h = absurd h
step_declined m None (Filling kept count) bl AdvanceCall x st' bl' h = absurd h
step_declined m None (Running kept t) bl AdvanceCall x st' bl' h = absurd (err_ok h.becomes.answer)
step_declined m None (Finished kept) bl AdvanceCall x st' bl' h = absurd h
step_declined m None Idle bl (LineCall k) x st' bl' h = absurd h
step_declined m None (Filling kept count) bl (LineCall k) x st' bl' h = absurd h
step_declined m None (Running kept t) bl (LineCall k) x st' bl' h = absurd h
step_declined m None (Finished kept) bl (LineCall k) x st' bl' h = absurd (err_ok h.answer)
step_declined m None Idle bl RestartCall x st' bl' h = absurd h
step_declined m None (Filling kept count) bl RestartCall x st' bl' h = absurd (err_ok h.answer)
step_declined m None (Running kept t) bl RestartCall x st' bl' h = absurd (err_ok h.answer)
step_declined m None (Finished kept) bl RestartCall x st' bl' h = absurd (err_ok h.answer)

sealed_declined : {N : Type 0} (m : Meaning N) (st : State) (bl : Pairs N) (n : ℕ) (r : Result (N × N) Refusal) (x : Refusal) (st' : State) (bl' : Pairs N) → LoadsSealed m st bl n r (Err x) st' bl' → Left st bl st' bl'
sealed_declined m st bl n (Ok y) x st' bl' h = step_declined m (declined m st bl (LoadCall n y)) st bl (LoadCall n y) x st' bl' h
sealed_declined m st bl n (Err e) x st' bl' h = (h.after, h.holds)

load_declined : {N : Type 0} (m : Meaning N) (st : State) (bl : Pairs N) (n : ℕ) (z : Complex) (words : ℕ × ℕ) (limit : Result ℕ Refusal) (x : Refusal) (st' : State) (bl' : Pairs N) → LoadsWithin m st bl n z words limit (Err x) st' bl' → Left st bl st' bl'
load_declined m st bl n z words (Ok limit) x st' bl' (r, sealed, h) = sealed_declined m st bl n r x st' bl' h
load_declined m st bl n z words (Err e) x st' bl' h = (h.after, h.holds)

does_declined : {N : Type 0} (m : Meaning N) (st : State) (bl : Pairs N) (c : Command) (x : Refusal) (st' : State) (bl' : Pairs N) → Does m st bl c (Err x) st' bl' → Left st bl st' bl'
does_declined m st bl (Choose c) x st' bl' h = absurd h
does_declined m st bl (Load n z words) x st' bl' h = load_declined m st bl n z words (limit_in st n) x st' bl' h
does_declined m st bl (Plan k size q1 q2) x st' bl' h = step_declined m (declined m st bl (PlanCall k size q1 q2)) st bl (PlanCall k size q1 q2) x st' bl' h
does_declined m st bl Begin x st' bl' h = step_declined m (declined m st bl BeginCall) st bl BeginCall x st' bl' h
does_declined m st bl Advance x st' bl' h = step_declined m (declined m st bl AdvanceCall) st bl AdvanceCall x st' bl' h
does_declined m st bl (Line k) x st' bl' h = step_declined m (declined m st bl (LineCall k)) st bl (LineCall k) x st' bl' h
does_declined m st bl Restart x st' bl' h = step_declined m (declined m st bl RestartCall) st bl RestartCall x st' bl' h

serves_declined : (w : Console) (c : Command) (x : Refusal) (w' : Console) → Serves w c (Err x) w' → w' ≡ w
serves_declined absent c x w' (e, f) = f
serves_declined (plain n st bl) c x w' (st', bl', does, f) = let same = does_declined (residues n) st bl c x st' bl' does in f ∙ (ap (λ (s : State). plain n s bl') same.0 ∙ ap (λ (b : Pairs ℕ). plain n st b) same.1)
serves_declined (system s st bl) c x w' (st', bl', does, f) = let same = does_declined (meant s) st bl c x st' bl' does in f ∙ (ap (λ (u : State). system s u bl') same.0 ∙ ap (λ (b : Pairs Residues). system s st b) same.1)
serves_declined (shared n st bl) c x w' (st', bl', does, f) = let same = does_declined (split (residues n)) st bl c x st' bl' does in f ∙ (ap (λ (s : State). shared n s bl') same.0 ∙ ap (λ (b : Pairs (Halves ℕ)). shared n st b) same.1)

turn_declined : (w : Console) (d : Decoded) (x : Refusal) (w' : Console) → Turn w d (Err x) w' → w' ≡ w
turn_declined w (Err y) x w' (e, f) = f
turn_declined w (Ok (Choose c)) x w' (inl (lawful, e, opens)) = absurd (err_ok e)
turn_declined w (Ok (Choose c)) x w' (inr (unlawful, e, f)) = f
turn_declined w (Ok (Plan k size q1 q2)) x w' t = serves_declined w (Plan k size q1 q2) x w' t
turn_declined w (Ok (Load n z words)) x w' t = serves_declined w (Load n z words) x w' t
turn_declined w (Ok Begin) x w' t = serves_declined w Begin x w' t
turn_declined w (Ok Advance) x w' t = serves_declined w Advance x w' t
turn_declined w (Ok (Line k)) x w' t = serves_declined w (Line k) x w' t
turn_declined w (Ok Restart) x w' t = serves_declined w Restart x w' t

pub steady : Steady
steady = record { replaced = turn_replaced; declined = turn_declined }
