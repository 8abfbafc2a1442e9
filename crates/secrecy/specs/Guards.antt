-- The law on houses is not empty: every list of calls has a run, every sample that was sealed under the sample scale will do as a second
-- sample, and some runs load samples and open lines.
use Rattle.std.specs.Prelude.{◌≡◌, ℕ, true, List, [], ◌∷◌, pos, negsuc, Some, None, Ok}
use Rattle.integers.specs.declared.Complex.{Complex}
use Rattle.integers.specs.Complex.{complex}
use Rattle.integers.specs.Modulus.{is_modulus}
use Rattle.plan.specs.declared.method.Method.TheVariants.{Direct}
use Rattle.scheme.specs.Sealing.{SealedPair}
use Rattle.plain.specs.Residues.{residues}
use Rattle.split.specs.declared.halves.Halves.{Halves}
use Rattle.split.specs.Shares.{split}
use Rattle.states.specs.declared.State.TheVariants.{Idle}
use Rattle.states.specs.declared.Call.{Call}
use Rattle.states.specs.declared.Call.TheVariants.{Plan as PlanCall, Load, Begin, Line as LineCall}
use Rattle.states.specs.Step.{Pairs}
use Rattle.states.specs.History.{Numbers}
use Rattle.secrecy.specs.Secrecy.{After, answers_of, Run, InScale, SecondSamples, hidden_pair}
use Rattle.secrecy.specs.Masks.{masks}

-- one place that holds zeros
abbrev pub one_start : Pairs (Halves ℕ)
one_start = (record { first = 0; second = 0 }, record { first = 0; second = 0 }) ∷ []

-- modulo 81, the one sample 1 under the words 70 and 3, and its line
abbrev pub one_calls : List (Call (Halves ℕ))
one_calls = PlanCall Direct 1 1 1 ∷ Load 0 (hidden_pair 81 (complex (pos 1) (pos 0)) (70, 3)) ∷ Begin ∷ LineCall 0 ∷ []

-- the sample −1 in its place
abbrev pub other_sample : List Complex
other_sample = complex (negsuc 0) (pos 0) ∷ []

-- the calls run, all accepted, and open the line 1; the sample −1 will do in place of 1, and the second house would have seen the same under the words 68 and 3
pub record OneLine : Type 0 where
  pub after : List (After (Halves ℕ))
  pub run : Run (split (residues 81)) Idle one_start one_calls after
  pub answers : answers_of after ≡ Ok None ∷ Ok None ∷ Ok None ∷ Ok (Some (record { index = 0; re = pos 1; im = pos 0; scale = 1; distance = 1 })) ∷ []
  pub second : SecondSamples None one_calls (answers_of after) other_sample
  pub words : masks 81 true one_calls (answers_of after) other_sample ≡ (68, 3) ∷ []

pub record SecrecySpeaks : Type 0 where
  pub runs : (n : ℕ) → is_modulus n ≡ true → (start : Pairs (Halves ℕ)) (cs : List (Call (Halves ℕ))) → (ts : List (After (Halves ℕ))) × Run (split (residues n)) Idle start cs ts
  pub sealed : (n : ℕ) (p : Numbers) (z : Complex) (w : ℕ × ℕ) (x : Halves ℕ × Halves ℕ) → SealedPair (split (residues n)) p.sample z w x → InScale (Some p) z
  pub line : OneLine
