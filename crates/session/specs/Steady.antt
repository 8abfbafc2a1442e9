-- What a line of the console leaves as it was.
use Rattle.std.specs.Prelude.{◌≡◌, ◌⊎◌, Ok, Err, None}
use Rattle.refusal.specs.declared.kinds.Refusal.{Refusal}
use Rattle.command.specs.declared.kinds.Choice.{Choice}
use Rattle.command.specs.declared.kinds.Command.TheVariants.{Choose}
use Rattle.session.specs.Session.{Decoded, Answer, Console, absent, plain, system, shared, Turn}

-- the same window, under the same scheme; its state and block may differ
abbrev pub SameWindow : Console → Console → Type 0
SameWindow absent absent = Unit {0}
SameWindow absent (plain n st bl) = ⊥
SameWindow absent (system s st bl) = ⊥
SameWindow absent (shared n st bl) = ⊥
SameWindow (plain n st bl) absent = ⊥
SameWindow (plain n st bl) (plain k st' bl') = n ≡ k
SameWindow (plain n st bl) (system s st' bl') = ⊥
SameWindow (plain n st bl) (shared k st' bl') = ⊥
SameWindow (system s st bl) absent = ⊥
SameWindow (system s st bl) (plain k st' bl') = ⊥
SameWindow (system s st bl) (system r st' bl') = s ≡ r
SameWindow (system s st bl) (shared k st' bl') = ⊥
SameWindow (shared n st bl) absent = ⊥
SameWindow (shared n st bl) (plain k st' bl') = ⊥
SameWindow (shared n st bl) (system s st' bl') = ⊥
SameWindow (shared n st bl) (shared k st' bl') = n ≡ k

-- a scheme was chosen, and the choice accepted
abbrev pub Chose : Decoded → Answer → Type 0
Chose d a = (a ≡ Ok None) × ((c : Choice) × (d ≡ Ok (Choose c)))

-- Nothing but an accepted choice of a scheme replaces a window; and a declined line changes nothing.
pub record Steady : Type 0 where
  pub replaced : (w : Console) (d : Decoded) (a : Answer) (w' : Console) → Turn w d a w' → Chose d a ⊎ SameWindow w w'
  pub declined : (w : Console) (d : Decoded) (x : Refusal) (w' : Console) → Turn w d (Err x) w' → w' ≡ w
