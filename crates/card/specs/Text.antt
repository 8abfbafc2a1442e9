-- What a card says of a plan and a modulus, and its text.
use Rattle.std.specs.Prelude.{◌≡◌, ℕ, List, ◌++◌, Ok, Err, codes, decimal, Result}
use Rattle.plan.specs.declared.plan.Plan.{Plan}
use Rattle.plan.specs.Meaning.{least_modulus_of, Fits}
use Rattle.plan.specs.Making.{meaning_of}
use Rattle.plan.specs.Text.{plan_text, figures_text}
use Rattle.refusal.specs.declared.kinds.Refusal.{Refusal}
use Rattle.refusal.specs.Row.{row, text as refusal_text}
use Rattle.card.specs.declared.card.Card.{Card}
use Rattle.card.specs.declared.card.Verdict.{Verdict}

-- the card holds the plan, its figures, the modulus, and whether the plan fits it
pub record CardOf (p : Plan) (n : ℕ) (c : Card) : Type 0 where
  pub «plan» : c.plan ≡ p
  pub figures : c.figures ≡ meaning_of p
  pub least : c.verdict.least_modulus ≡ least_modulus_of (meaning_of p)
  pub modulus : c.verdict.modulus ≡ n
  pub fit : Fits (meaning_of p) n c.verdict.fit

-- the least modulus, and whether the modulus n fits, in words
abbrev pub fit_text : ℕ → ℕ → Result (Unit {0}) Refusal → List ℕ
fit_text least n (Ok x) = codes "least modulus " ++ (decimal least ++ (codes ": fits " ++ decimal n))
fit_text least n (Err x) = codes "least modulus " ++ (decimal least ++ (codes ": " ++ (decimal n ++ (codes " is refused, " ++ refusal_text (row x)))))

abbrev pub verdict_text : Verdict → List ℕ
verdict_text v = fit_text v.least_modulus v.modulus v.fit

-- the text of a card: the plan's line, the figures' line, the verdict's line
abbrev pub card_text : Card → List ℕ
card_text c = plan_text c.plan ++ (codes "\n  " ++ (figures_text c.figures ++ (codes "\n  " ++ verdict_text c.verdict)))
