-- The laws on runs are not empty.
use Rattle.std.proofs.Common.{◌≡◌, ℕ, List, [], ◌∷◌, ℤ, pos, negsuc, nat_abs, Ok, Err, sym, refl, ap, ◌∙◌, subst, arith, lit≤, None, Some}
use Rattle.integers.specs.declared.Complex.{Complex}
use Rattle.integers.specs.Complex.{complex}
use Rattle.integers.specs.Residue.{residue, centred}
use Rattle.integers.proofs.Residues.{centred_only}
use Rattle.refusal.specs.declared.kinds.Refusal.TheVariants.{Moment}
use Rattle.circle.specs.Circle.{circle, point}
use Rattle.circle.specs.Fine.{fine}
use Rattle.circle.specs.Near.{turned}
use Rattle.circle.specs.Twiddle.{twiddle, rounded}
use Rattle.plan.specs.declared.method.Method.TheVariants.{Direct}
use Rattle.plan.specs.declared.plan.Plan.{Plan}
use Rattle.lines.specs.Lines.{sum_below, direct_line_of}
use Rattle.lines.specs.Laws.{Within}
use Rattle.scheme.specs.Meaning.{Meaning, Sound, Sealed}
use Rattle.scheme.specs.Sealing.{means, means_pair}
use Rattle.plain.specs.Residues.{residues}
use Rattle.stages.specs.Block.{is_well_formed_at, read_at}
use Rattle.states.specs.declared.Kept.{Kept}
use Rattle.states.specs.declared.State.TheVariants.{Idle, Filling, Finished}
use Rattle.states.specs.Step.{first_malformed_place}
use Rattle.secrecy.specs.Secrecy.{After}
use Rattle.secrecy.proofs.Masks.{plain_sound}
use Rattle.runs.specs.Guards.{SealedSamplesWithin, SealedLinesRight, one_start, one_calls, one_answers, one_end, OneRun, OneWrong, Reaches}
use Rattle.runs.proofs.Running.{RunTo, run_whole}

-- a sealed number means what was sealed
sealed_means : {N : Type 0} (m : Meaning N) → Sound m → (z : ℤ) (word : ℕ) (x : N) → Sealed m z word x → means m x ≡ z
sealed_means m ok z word x h = ap (λ r. centred r m.modulus) h.hidden ∙ centred_only z m.modulus ok.odd h.within

pub sealed_within : (N : Type 0) → SealedSamplesWithin N
sealed_within N m ok limit z words x h =
    let same : means_pair m x ≡ z = ap (λ (a : ℤ). complex a (means m x.1)) (sealed_means m ok z.re words.0 x.0 h.re.sealed) ∙ ap (λ (b : ℤ). complex z.re b) (sealed_means m ok z.im words.1 x.1 h.im.sealed) in
    (same, subst (λ (y : Complex). Within limit y) (sym same) (record { re = h.re.limited; im = h.im.limited }))

pub sealed_lines : (N : Type 0) → SealedLinesRight N
sealed_lines N m ok past k l cs rs all given =
    let limit = all.0.plan.sample in
    all.0.right
    (
    λ n below.
    let g = given n below in
    subst (λ (y : Complex). Within limit y) (sym g.meant) (sealed_within N m ok limit g.sample g.words g.pair g.sealed).1
    )

abbrev plan : Plan
plan = record { method = Direct; size = 1; sample_scale = 1; twiddle_scale = 1; size_lawful = refl; sample_positive = lit≤ tt; sample_limited = lit≤ tt; twiddle_positive = lit≤ tt; twiddle_limited = lit≤ tt }

abbrev kept : Kept
kept = record { plan = plan; modulus = 81 }

abbrev after : List (After ℕ)
after =
    record { answer = Err Moment; block = one_start }
    ∷ record { answer = Ok None; block = one_start }
    ∷ record { answer = Ok None; block = one_end }
    ∷ record { answer = Ok None; block = one_end }
    ∷ record { answer = Ok (Some (record { index = 0; re = pos 1; im = negsuc 0; scale = 1; distance = 1 })); block = one_end }
    ∷ []

run : RunTo (residues 81) Idle one_start one_calls after (Finished kept) one_end
unfolding residue centred circle point fine turned twiddle rounded sum_below direct_line_of is_well_formed_at read_at first_malformed_place
run = (
  Idle,
  record { answer = refl; after = refl; holds = refl },
  (
    Filling kept 0,
    record { plan = plan; has = record { method = refl; size = refl; sample = refl; twiddle = refl }; becomes = record { answer = refl; after = refl; holds = refl } },
    (
      Filling kept 1,
      record { answer = refl; after = refl; holds = refl },
      (
        Finished kept,
        record { answer = refl; after = refl; holds = refl },
        (Finished kept, record { answer = refl; after = refl; holds = refl }, (refl, refl)),
      ),
    ),
  ),
)

pub one_run : OneRun
one_run = run_whole (residues 81) (plain_sound 81 refl) one_start one_calls one_answers (Finished kept) one_end (record { after = after; runs = run; answers = refl })

pub one_wrong : OneWrong
unfolding circle point fine turned twiddle rounded sum_below direct_line_of
one_wrong h = let e : 2 ≡ 1 = ap (λ (z : Complex). nat_abs z.re) h.whole in omega (arith, e)

pub reaches : (N : Type 0) → Reaches N
reaches N = record { new = λ m start. (refl, refl); next = λ m start past st bl h e st' bl' s. (st, bl, h, s) }
