-- A line read from the left, field by field. What this amounts to is said in Spelling.
use Rattle.std.specs.Prelude.{ℕ, cond, List, Some, None, Option, ◌==◌}
use Rattle.integers.specs.Complex.{complex}
use Rattle.plan.specs.declared.method.Method.{Method}
use Rattle.plan.specs.declared.method.Method.TheVariants.{Direct, Radix2, Radix4}
use Rattle.command.specs.declared.kinds.Choice.TheVariants.{Plain, System, Split}
use Rattle.command.specs.declared.kinds.Command.{Command}
use Rattle.command.specs.declared.kinds.Command.TheVariants.{Choose, Plan, Load, Begin, Advance, Line, Restart}
use Rattle.command.specs.Fields.{cut_at, letter_of, heading, letter_and_rest, numeral_of, number_and_rest, whole_and_rest}

-- what follows a value, where there is one
abbrev pub also : {A B : Type 0} → Option A → (A → Option B) → Option B
also None next = None
also (Some x) next = next x

-- the first field, and what follows its comma
abbrev pub first_of : List ℕ → Option (List ℕ × List ℕ) → List ℕ × Option (List ℕ)
first_of line None = (line, None)
first_of line (Some p) = (p.0, Some p.1)

abbrev pub fields_of : List ℕ → List ℕ × Option (List ℕ)
fields_of line = first_of line (cut_at 44 line)

abbrev pub method_of : ℕ → Option Method
method_of c = cond (c == 100) (Some Direct) (cond (c == 50) (Some Radix2) (cond (c == 52) (Some Radix4) None))

-- the method that a field names by its letter
abbrev pub method_by_letter : List ℕ → Option Method
method_by_letter field = also (letter_of field) method_of

-- a method, a comma and the rest
unfoldable pub method_and_rest : List ℕ → Option (Method × List ℕ)
method_and_rest text = heading method_by_letter (cut_at 44 text)

abbrev pub alone_of : Command → Option (List ℕ) → Option Command
alone_of c None = Some c
alone_of c (Some rest) = None

unfoldable pub system_of : List ℕ → Option Command
system_of text = also (number_and_rest text) (λ a. also (number_and_rest a.1) (λ b. also (numeral_of b.1) (λ c. Some (Choose (System a.0 b.0 c)))))

unfoldable pub choice_by : ℕ → List ℕ → Option Command
choice_by kind text = cond (kind == 114) (also (numeral_of text) (λ n. Some (Choose (Plain n)))) (cond (kind == 121) (system_of text) (cond (kind == 112) (also (numeral_of text) (λ n. Some (Choose (Split n)))) None))

unfoldable pub choice_of : List ℕ → Option Command
choice_of text = also (letter_and_rest text) (λ kind. choice_by kind.0 kind.1)

unfoldable pub plan_of : List ℕ → Option Command
plan_of text = also (method_and_rest text) (λ k. also (number_and_rest k.1) (λ a. also (number_and_rest a.1) (λ b. also (numeral_of b.1) (λ q. Some (Plan k.0 a.0 b.0 q)))))

unfoldable pub load_of : List ℕ → Option Command
load_of text = also (number_and_rest text) (λ n. also (whole_and_rest n.1) (λ x. also (whole_and_rest x.1) (λ y. also (number_and_rest y.1) (λ a. also (numeral_of a.1) (λ b. Some (Load n.0 (complex x.0 y.0) (a.0, b)))))))

abbrev pub line_of : List ℕ → Option Command
line_of text = also (numeral_of text) (λ k. Some (Line k))

unfoldable pub command_by : ℕ → Option (List ℕ) → Option Command
command_by c rest = cond (c == 115) (also rest choice_of) (cond (c == 112) (also rest plan_of) (cond (c == 108) (also rest load_of) (cond (c == 98) (alone_of Begin rest) (cond (c == 97) (alone_of Advance rest) (cond (c == 103) (also rest line_of) (cond (c == 114) (alone_of Restart rest) None))))))

unfoldable pub command_of : List ℕ → Option Command
command_of line = also (letter_of (fields_of line).0) (λ c. command_by c (fields_of line).1)
