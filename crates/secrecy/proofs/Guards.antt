-- The law on houses is not empty.
use Rattle.std.proofs.Common.{ℕ, List, [], ◌∷◌, pos, None, Ok, refl, lit≤, Some}
use Rattle.integers.specs.Complex.{complex}
use Rattle.integers.specs.Residue.{residue, centred}
use Rattle.circle.specs.Circle.{circle, point}
use Rattle.circle.specs.Fine.{fine}
use Rattle.circle.specs.Near.{turned}
use Rattle.circle.specs.Twiddle.{twiddle, rounded}
use Rattle.plan.specs.declared.method.Method.TheVariants.{Direct}
use Rattle.plan.specs.declared.plan.Plan.{Plan}
use Rattle.lines.specs.Lines.{sum_below, direct_line_of}
use Rattle.split.specs.declared.halves.Halves.{Halves}
use Rattle.stages.specs.Block.{is_well_formed_at, read_at}
use Rattle.states.specs.declared.Kept.{Kept}
use Rattle.states.specs.declared.State.TheVariants.{Idle, Filling, Finished}
use Rattle.states.specs.Step.{Pairs, first_malformed_place}
use Rattle.secrecy.specs.Secrecy.{After, Run, hidden_pair}
use Rattle.secrecy.specs.Guards.{one_start, one_calls, OneLine, SecrecySpeaks}
use Rattle.secrecy.proofs.Blocks.{shares}
use Rattle.secrecy.proofs.Totality.{lists_run}

abbrev plan : Plan
plan = record { method = Direct; size = 1; sample_scale = 1; twiddle_scale = 1; size_lawful = refl; sample_positive = lit≤ tt; sample_limited = lit≤ tt; twiddle_positive = lit≤ tt; twiddle_limited = lit≤ tt }

abbrev kept : Kept
kept = record { plan = plan; modulus = 81 }

-- the block after the load
abbrev loaded : Pairs (Halves ℕ)
loaded = hidden_pair 81 (complex (pos 1) (pos 0)) (70, 3) ∷ []

abbrev after : List (After (Halves ℕ))
after =
    record { answer = Ok None; block = one_start }
    ∷ record { answer = Ok None; block = loaded }
    ∷ record { answer = Ok None; block = loaded }
    ∷ record { answer = Ok (Some (record { index = 0; re = pos 1; im = pos 0; scale = 1; distance = 1 })); block = loaded }
    ∷ []

run : Run (shares 81) Idle one_start one_calls after
unfolding residue centred circle point fine turned twiddle rounded sum_below direct_line_of is_well_formed_at read_at first_malformed_place
run = (
  Filling kept 0,
  record { plan = plan; has = record { method = refl; size = refl; sample = refl; twiddle = refl }; becomes = record { answer = refl; after = refl; holds = refl } },
  (
    Filling kept 1,
    record { answer = refl; after = refl; holds = refl },
    (
      Finished kept,
      record { answer = refl; after = refl; holds = refl },
      (Finished kept, record { answer = refl; after = refl; holds = refl }, tt),
    ),
  ),
)

one_line : OneLine
unfolding residue
one_line = record { after = after; run = run; answers = refl; second = (record { re = lit≤ tt; im = lit≤ tt }, refl); words = refl }

pub secrecy_speaks : SecrecySpeaks
secrecy_speaks =
    record {
      runs = λ n modulus start cs. lists_run n modulus cs None Idle start tt;
      sealed = λ n p z w x s. record { re = s.re.limited; im = s.im.limited };
      line = one_line;
    }
