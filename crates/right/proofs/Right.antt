-- Opened lines are right.
use Rattle.std.proofs.Common.{◌≡◌, ℕ, ◌*◌, ◌^◌, ◌<◌, ◌≤◌, ltb, List, [], length, Some, None, Ok, Err, Option, Result, sym, refl, ◌∙◌, subst, arith, ltb-true}
use Rattle.integers.specs.declared.Complex.{Complex}
use Rattle.circle.specs.Near.{Near, multiple}
use Rattle.refusal.specs.declared.kinds.Refusal.{Refusal}
use Rattle.refusal.specs.declared.kinds.Refusal.TheVariants.{Place}
use Rattle.plan.specs.declared.method.Method.{Method}
use Rattle.plan.specs.declared.method.Method.TheVariants.{Direct, Radix2, Radix4}
use Rattle.plan.specs.declared.plan.Plan.{Plan}
use Rattle.plan.specs.Meaning.{least_modulus_of}
use Rattle.plan.specs.Making.{meaning_of}
use Rattle.lines.specs.Lines.{line_of, fine_line_of}
use Rattle.lines.specs.Laws.{Samples, meant}
use Rattle.lines.proofs.Bounds.{lines_meant}
use Rattle.lines.proofs.Distances.{lines_near}
use Rattle.scheme.specs.Meaning.{Meaning, Sound}
use Rattle.scheme.specs.Hidden.{StandsPair}
use Rattle.stages.specs.Block.{read_at}
use Rattle.stages.specs.Stage.{entries}
use Rattle.states.specs.declared.State.{State}
use Rattle.states.specs.declared.State.TheVariants.{Idle, Filling, Running, Finished}
use Rattle.states.specs.declared.Call.TheVariants.{Line as LineCall}
use Rattle.states.specs.declared.Line.{Line}
use Rattle.states.specs.Step.{Pairs, StepBy, declined, line_read, stated}
use Rattle.states.specs.History.{RightFor, RightBy, plan_in, samples_in, Event, OpenedLinesAreRight}
use Rattle.states.proofs.Declining.{unless_none}
use Rattle.right.proofs.Agreeing.{Agree, agree_meant, agree_direct, read_stands, some}
use Rattle.right.proofs.Tied.{numbers_of, Tied, end_of, held_last}
use Rattle.right.proofs.Steps.{reached_tied}

module _ {N : Type 0} (m : Meaning N) (ok : Sound m) where
  -- the number that a line is read from agrees with the line
  line_agrees : (k : Method) (p : Plan) (s : ℕ → Complex) (bl : Pairs N) (j : ℕ) → p.size ≤ length bl → j < p.size → ((n : ℕ) → n < p.size → (d : N × N) → StandsPair m [] (end_of k p.size p.twiddle_scale s n) (entries d bl n)) → Agree m.modulus (line_read m p k bl j) (line_of k p.size p.twiddle_scale s j)
  line_agrees Direct p s bl j long l h =
      agree_direct m.modulus (some m ok) p.twiddle_scale p.size (read_at m [] bl) s j (λ i b. read_stands m ok bl i (s i) (omega arith) (h i b))
  line_agrees Radix2 p s bl j long l h = read_stands m ok bl j (line_of Radix2 p.size p.twiddle_scale s j) (omega arith) (h j l)
  line_agrees Radix4 p s bl j long l h = read_stands m ok bl j (line_of Radix4 p.size p.twiddle_scale s j) (omega arith) (h j l)

  -- a line as it is stated is right for samples within the sample scale
  stated_right : (p : Plan) (s : ℕ → Complex) (j : ℕ) (z : Complex) → j < p.size → Agree m.modulus z (line_of p.method p.size p.twiddle_scale s j) → least_modulus_of (meaning_of p) ≤ m.modulus → Samples p.size p.sample_scale s → RightFor (numbers_of p) s j (stated m p j z)
  stated_right p s j z l agree fits w =
      let line : Complex = line_of p.method p.size p.twiddle_scale s j in
      let whole : meant m.modulus z ≡ line_of p.method p.size p.twiddle_scale s j =
      agree_meant m.modulus z line agree ∙ lines_meant p.method p.size p.sample_scale p.twiddle_scale s p.size_lawful w m.modulus ok.odd fits j l in
      record {
        index = refl;
        whole = whole;
        scale = refl;
        distance = refl;
        near =
            subst (λ (x : Complex). Near (2 ^ 30 * (meaning_of p).distance) (multiple (2 ^ 30) x) (multiple (meaning_of p).scale (fine_line_of p.size s j))) (sym whole)
            (lines_near p.method p.size p.sample_scale p.twiddle_scale s p.size_lawful p.twiddle_limited w j l);
      }

  -- a line opened in a tied state
  opened_by : (o : Option Refusal) (past : List (Event N)) (st : State) (bl : Pairs N) (k : ℕ) (l : Line) (st' : State) (bl' : Pairs N) → declined m st bl (LineCall k) ≡ o → StepBy o m st bl (LineCall k) (Ok (Some l)) st' bl' → Tied m (plan_in past) (samples_in m past) st bl → RightBy m past k l
  opened_by (Some x) past st bl k l st' bl' e h t =
      let e : ◌≡◌ {A = Result (Option Line) Refusal} (Ok (Some l)) (Err x) = h.answer in cc
  opened_by None past Idle bl k l st' bl' e h t = absurd h
  opened_by None past (Filling kept count) bl k l st' bl' e h t = absurd h
  opened_by None past (Running kept u) bl k l st' bl' e h t = absurd h
  opened_by None past (Finished kept) bl k l st' bl' e h (f, r) =
      let p : Plan = kept.plan in
      let (low, later) = unless_none (ltb k kept.plan.size) Place _ e in
      let below : k < kept.plan.size = ltb-true k kept.plan.size low in
      let z : Complex = line_read m kept.plan kept.plan.method bl k in
      let a : ◌≡◌ {A = Result (Option Line) Refusal} (Ok (Some l)) (Ok (Some (stated m kept.plan k z))) = h.answer in
      let same : l ≡ stated m kept.plan k z = cc in
      let agree : Agree m.modulus z (line_of p.method p.size p.twiddle_scale r.samples k) =
      line_agrees p.method p r.samples bl k f.long below (held_last m p.method p.size p.twiddle_scale r.samples bl p.size_lawful r.held) in
      record {
        plan = numbers_of p;
        samples = r.samples;
        force = f.plan;
        within = below;
        loaded = r.loads;
        right = λ w. subst (λ (x : Line). RightFor (numbers_of p) r.samples k x) (sym same) (stated_right p r.samples k z below agree f.fits w);
      }

pub opened_right : (N : Type 0) → OpenedLinesAreRight N
opened_right N m ok start past st bl h k l st' bl' step =
    opened_by m ok (declined m st bl (LineCall k)) past st bl k l st' bl' refl step (reached_tied m ok start past st bl h)
