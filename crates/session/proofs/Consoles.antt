-- The law on opened lines, over whole sessions.
use Rattle.std.proofs.Common.{◌≡◌, true, List, [], ◌∷◌, Ok, Err, sym, refl, subst, inl, inr, None}
use Rattle.integers.specs.Modulus.{is_modulus}
use Rattle.refusal.specs.declared.kinds.Refusal.{Refusal}
use Rattle.refusal.specs.declared.kinds.Refusal.TheVariants.{Moment, Modulus, Garbled}
use Rattle.plain.specs.Residues.{residues}
use Rattle.split.specs.Shares.{split}
use Rattle.system.specs.Meant.{meant}
use Rattle.system.specs.Laws.{sound}
use Rattle.secrecy.proofs.Masks.{plain_sound, split_sound}
use Rattle.command.specs.declared.kinds.Choice.{Choice}
use Rattle.command.specs.declared.kinds.Choice.TheVariants.{Plain as PlainChoice, System as SystemChoice, Split as SplitChoice}
use Rattle.command.specs.declared.kinds.Command.{Command}
use Rattle.command.specs.declared.kinds.Command.TheVariants.{Choose, Plan, Load, Begin, Advance, Line, Restart}
use Rattle.session.specs.Session.{Decoded, Answer, Console, absent, plain, system, shared, LawfulChoice, Opens, Serves, Turn, Turns}
use Rattle.session.specs.Typed.{Typed, RightAnswer, AllRight, Reachable, AllReachable}
use Rattle.session.proofs.Truth.{more, Holds, holds_new, holds_declined, does_leaves}

-- what is known of the console after what was typed
abbrev pub Known : Console → List Typed → Type 0
Known absent past = Unit {0}
Known (plain n st bl) past = (lawful : is_modulus n ≡ true) × Holds (residues n) (plain_sound n lawful) past st bl
Known (system s st bl) past = Holds (meant s) (sound s) past st bl
Known (shared n st bl) past = (lawful : is_modulus n ≡ true) × Holds (split (residues n)) (split_sound n lawful) past st bl

-- a line that is declined
known_declined : (w : Console) (d : Decoded) (x : Refusal) (past : List Typed) → Known w past → Known w (more d (Err x) past)
known_declined absent d x past h = tt
known_declined (plain n st bl) d x past (lawful, h) = (lawful, holds_declined (residues n) (plain_sound n lawful) d x past st bl h)
known_declined (system s st bl) d x past h = holds_declined (meant s) (sound s) d x past st bl h
known_declined (shared n st bl) d x past (lawful, h) = (lawful, holds_declined (split (residues n)) (split_sound n lawful) d x past st bl h)

-- what a line leaves: what is known, a right answer, an answer that can be met
abbrev Leaves : Console → Decoded → Answer → List Typed → Type 0
Leaves w d a past = Known w (more d a past) × RightAnswer past a d × Reachable a

declined_leaves : (w w' : Console) (d : Decoded) (x : Refusal) → Reachable (Err x) → (a : Answer) (past : List Typed) → Known w past → a ≡ Err x → w' ≡ w → Leaves w' d a past
declined_leaves w w' d x met a past h e f = subst (λ (b : Answer). Leaves w' d b past) (sym e) (subst (λ (v : Console). Leaves v d (Err x) past) (sym f) (known_declined w d x past h, tt, met))

-- a new window
chosen_leaves : (c : Choice) (w : Console) (a : Answer) (past : List Typed) → LawfulChoice c → a ≡ Ok None → Opens c w → Leaves w (Ok (Choose c)) a past
chosen_leaves (PlainChoice n) w a past lawful e (bl, long, f) =
    subst (λ (b : Answer). Leaves w (Ok (Choose (PlainChoice n))) b past) (sym e) (subst (λ (v : Console). Leaves v (Ok (Choose (PlainChoice n))) (Ok None) past) (sym f) ((lawful, holds_new (residues n) (plain_sound n lawful) (more (Ok (Choose (PlainChoice n))) (Ok None) past) bl long refl (λ i. refl)), tt, tt))
chosen_leaves (SystemChoice p q r) w a past lawful e (s, made, bl, long, f) =
    subst (λ (b : Answer). Leaves w (Ok (Choose (SystemChoice p q r))) b past) (sym e) (subst (λ (v : Console). Leaves v (Ok (Choose (SystemChoice p q r))) (Ok None) past) (sym f) (holds_new (meant s) (sound s) (more (Ok (Choose (SystemChoice p q r))) (Ok None) past) bl long refl (λ i. refl), tt, tt))
chosen_leaves (SplitChoice n) w a past lawful e (bl, long, f) =
    subst (λ (b : Answer). Leaves w (Ok (Choose (SplitChoice n))) b past) (sym e) (subst (λ (v : Console). Leaves v (Ok (Choose (SplitChoice n))) (Ok None) past) (sym f) ((lawful, holds_new (split (residues n)) (split_sound n lawful) (more (Ok (Choose (SplitChoice n))) (Ok None) past) bl long refl (λ i. refl)), tt, tt))

-- a command on the window
serves_leaves : (w w' : Console) (c : Command) (a : Answer) (past : List Typed) → Known w past → Serves w c a w' → Leaves w' (Ok c) a past
serves_leaves absent w' c a past h (e, f) = declined_leaves absent w' (Ok c) Moment tt a past h e f
serves_leaves (plain n st bl) w' c a past (lawful, h) (st', bl', does, f) =
    let left = does_leaves (residues n) (plain_sound n lawful) past st bl h c a st' bl' does in
    subst (λ (v : Console). Leaves v (Ok c) a past) (sym f) ((lawful, left.0), left.1, left.2)
serves_leaves (system s st bl) w' c a past h (st', bl', does, f) =
    let left = does_leaves (meant s) (sound s) past st bl h c a st' bl' does in
    subst (λ (v : Console). Leaves v (Ok c) a past) (sym f) (left.0, left.1, left.2)
serves_leaves (shared n st bl) w' c a past (lawful, h) (st', bl', does, f) =
    let left = does_leaves (split (residues n)) (split_sound n lawful) past st bl h c a st' bl' does in
    subst (λ (v : Console). Leaves v (Ok c) a past) (sym f) ((lawful, left.0), left.1, left.2)

turn_leaves : (w w' : Console) (d : Decoded) (a : Answer) (past : List Typed) → Known w past → Turn w d a w' → Leaves w' d a past
turn_leaves w w' (Err x) a past h (e, f) = declined_leaves w w' (Err x) Garbled tt a past h e f
turn_leaves w w' (Ok (Choose c)) a past h (inl (lawful, e, opens)) = chosen_leaves c w' a past lawful e opens
turn_leaves w w' (Ok (Choose c)) a past h (inr (unlawful, e, f)) = declined_leaves w w' (Ok (Choose c)) Modulus tt a past h e f
turn_leaves w w' (Ok (Plan k size q1 q2)) a past h t = serves_leaves w w' (Plan k size q1 q2) a past h t
turn_leaves w w' (Ok (Load n z words)) a past h t = serves_leaves w w' (Load n z words) a past h t
turn_leaves w w' (Ok Begin) a past h t = serves_leaves w w' Begin a past h t
turn_leaves w w' (Ok Advance) a past h t = serves_leaves w w' Advance a past h t
turn_leaves w w' (Ok (Line k)) a past h t = serves_leaves w w' (Line k) a past h t
turn_leaves w w' (Ok Restart) a past h t = serves_leaves w w' Restart a past h t

-- every answer of a session is one that can be met
pub turns_reach : (w : Console) (ds : List Decoded) (rs : List Answer) (w' : Console) (past : List Typed) → Known w past → Turns w ds rs w' → AllReachable rs
turns_reach w [] [] w' past h e = tt
turns_reach w [] (a ∷ rs) w' past h e = absurd e
turns_reach w (d ∷ ds) [] w' past h e = absurd e
turns_reach w (d ∷ ds) (a ∷ rs) w' past h (v, t, later) = let left = turn_leaves w v d a past h t in (left.2, turns_reach v ds rs w' (more d a past) left.0 later)

-- every answer of a session is right by what was typed before it
pub turns_right : (w : Console) (ds : List Decoded) (rs : List Answer) (w' : Console) (past : List Typed) → Known w past → Turns w ds rs w' → AllRight past ds rs
turns_right w [] [] w' past h e = tt
turns_right w [] (a ∷ rs) w' past h e = absurd e
turns_right w (d ∷ ds) [] w' past h e = absurd e
turns_right w (d ∷ ds) (a ∷ rs) w' past h (v, t, later) = let left = turn_leaves w v d a past h t in (left.1, turns_right v ds rs w' (more d a past) left.0 later)
