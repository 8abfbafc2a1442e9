-- A run call by call: what the calls so far have done, one call more, and the law on opened lines over the whole run.
use Rattle.std.proofs.Common.{◌≡◌, ℕ, List, [], ◌∷◌, ◌++◌, Some, None, Ok, Err, Option, Result, sym, refl, ap, ◌∙◌, subst}
use Rattle.refusal.specs.declared.kinds.Refusal.{Refusal}
use Rattle.scheme.specs.Meaning.{Meaning, Sound}
use Rattle.states.specs.declared.State.{State}
use Rattle.states.specs.declared.State.TheVariants.{Idle, Filling, Running, Finished}
use Rattle.states.specs.declared.Call.{Call}
use Rattle.states.specs.declared.Call.TheVariants.{Plan as PlanCall, Load, Begin, Advance, Line as LineCall, Restart}
use Rattle.states.specs.declared.Line.{Line}
use Rattle.states.specs.Step.{Pairs, Step, StepBy, declined}
use Rattle.states.specs.History.{Event, Reached}
use Rattle.right.proofs.Right.{opened_right}
use Rattle.secrecy.specs.Secrecy.{After, Answers, answers_of, Run}
use Rattle.runs.specs.Runs.{RightAnswer, AllRight, last_block, RunOf}

-- a done call has opened no line
done_opens_none : {l : Line} → ◌≡◌ {A = Result (Option Line) Refusal} (Ok (Some l)) (Ok None) → ⊥
done_opens_none e = cc

-- nor has a declined one
declined_opens_none : {l : Line} {x : Refusal} → ◌≡◌ {A = Result (Option Line) Refusal} (Ok (Some l)) (Err x) → ⊥
declined_opens_none e = cc

module _ {N : Type 0} (m : Meaning N) where
  -- the calls lead from a state and a block to a state and a block
  abbrev pub RunTo : State → Pairs N → List (Call N) → List (After N) → State → Pairs N → Type 0
  RunTo st bl [] [] st' bl' = (st ≡ st') × (bl ≡ bl')
  RunTo st bl [] (t ∷ ts) st' bl' = ⊥
  RunTo st bl (c ∷ cs) [] st' bl' = ⊥
  RunTo st bl (c ∷ cs) (t ∷ ts) st' bl' = (st₁ : State) × Step m st bl c t.answer st₁ t.block × RunTo st₁ t.block cs ts st' bl'

  -- one call more
  run_more : (st : State) (bl : Pairs N) (cs : List (Call N)) (ts : List (After N)) (st₁ : State) (bl₁ : Pairs N) (c : Call N) (a : Result (Option Line) Refusal) (st' : State) (bl' : Pairs N) → RunTo st bl cs ts st₁ bl₁ → Step m st₁ bl₁ c a st' bl' → RunTo st bl (cs ++ c ∷ []) (ts ++ record { answer = a; block = bl' } ∷ []) st' bl'
  run_more st bl [] [] st₁ bl₁ c a st' bl' (es, eb) step = (st', simp (es, eb) step, (refl, refl))
  run_more st bl [] (t ∷ ts) st₁ bl₁ c a st' bl' h step = absurd h
  run_more st bl (d ∷ cs) [] st₁ bl₁ c a st' bl' h step = absurd h
  run_more st bl (d ∷ cs) (t ∷ ts) st₁ bl₁ c a st' bl' (st₂, s, h) step = (st₂, s, run_more st₂ t.block cs ts st₁ bl₁ c a st' bl' h step)

  run_of : (st : State) (bl : Pairs N) (cs : List (Call N)) (ts : List (After N)) (st' : State) (bl' : Pairs N) → RunTo st bl cs ts st' bl' → Run m st bl cs ts
  run_of st bl [] [] st' bl' h = tt
  run_of st bl [] (t ∷ ts) st' bl' h = absurd h
  run_of st bl (c ∷ cs) [] st' bl' h = absurd h
  run_of st bl (c ∷ cs) (t ∷ ts) st' bl' (st₁, s, h) = (st₁, s, run_of st₁ t.block cs ts st' bl' h)

  run_last : (st : State) (bl : Pairs N) (cs : List (Call N)) (ts : List (After N)) (st' : State) (bl' : Pairs N) → RunTo st bl cs ts st' bl' → last_block bl ts ≡ bl'
  run_last st bl [] [] st' bl' (es, eb) = eb
  run_last st bl [] (t ∷ ts) st' bl' h = absurd h
  run_last st bl (c ∷ cs) [] st' bl' h = absurd h
  run_last st bl (c ∷ cs) (t ∷ ts) st' bl' (st₁, s, h) = run_last st₁ t.block cs ts st' bl' h

  -- what is known of the calls made so far: their answers, and the state and the block that they left
  pub record SoFar (start : Pairs N) (cs : List (Call N)) (rs : Answers) (st : State) (bl : Pairs N) : Type 0 where
    pub after : List (After N)
    pub runs : RunTo Idle start cs after st bl
    pub answers : answers_of after ≡ rs

answers_more : {N : Type 0} (ts : List (After N)) (t : After N) → answers_of (ts ++ t ∷ []) ≡ answers_of ts ++ t.answer ∷ []
answers_more [] t = refl
answers_more (u ∷ ts) t = ap (λ (rs : Answers). u.answer ∷ rs) (answers_more ts t)

-- one call more
pub sofar_more : {N : Type 0} (m : Meaning N) (start : Pairs N) (cs : List (Call N)) (rs : Answers) (st : State) (bl : Pairs N) (c : Call N) (a : Result (Option Line) Refusal) (st' : State) (bl' : Pairs N) → SoFar m start cs rs st bl → Step m st bl c a st' bl' → SoFar m start (cs ++ c ∷ []) (rs ++ a ∷ []) st' bl'
sofar_more m start cs rs st bl c a st' bl' h step =
    record {
      after = h.after ++ record { answer = a; block = bl' } ∷ [];
      runs = run_more m Idle start cs h.after st bl c a st' bl' h.runs step;
      answers = answers_more h.after (record { answer = a; block = bl' }) ∙ ap (λ (xs : Answers). xs ++ a ∷ []) h.answers;
    }

module _ {N : Type 0} (m : Meaning N) (ok : Sound m) where
  -- a line is opened by a line call alone
  opened_by : (o : Option Refusal) (st : State) (bl : Pairs N) (c : Call N) (l : Line) (st' : State) (bl' : Pairs N) → StepBy o m st bl c (Ok (Some l)) st' bl' → (past : List (Event N)) → ((k : ℕ) → c ≡ LineCall k → RightAnswer m past (Ok (Some l)) (LineCall k)) → RightAnswer m past (Ok (Some l)) c
  opened_by (Some x) st bl c l st' bl' h past line = absurd (declined_opens_none h.answer)
  opened_by None st bl (PlanCall k size q1 q2) l st' bl' h past line = absurd (done_opens_none h.becomes.answer)
  opened_by None Idle bl (Load n x) l st' bl' h past line = absurd h
  opened_by None (Filling kept count) bl (Load n x) l st' bl' h past line = absurd (done_opens_none h.answer)
  opened_by None (Running kept t) bl (Load n x) l st' bl' h past line = absurd h
  opened_by None (Finished kept) bl (Load n x) l st' bl' h past line = absurd h
  opened_by None Idle bl Begin l st' bl' h past line = absurd h
  opened_by None (Filling kept count) bl Begin l st' bl' h past line = absurd (done_opens_none h.answer)
  opened_by None (Running kept t) bl Begin l st' bl' h past line = absurd h
  opened_by None (Finished kept) bl Begin l st' bl' h past line = absurd h
  opened_by None Idle bl Advance l st' bl' h past line = absurd h
  opened_by None (Filling kept count) bl Advance l st' bl' h past line = absurd h
  opened_by None (Running kept t) bl Advance l st' bl' h past line = absurd (done_opens_none h.becomes.answer)
  opened_by None (Finished kept) bl Advance l st' bl' h past line = absurd h
  opened_by None st bl (LineCall k) l st' bl' h past line = line k refl
  opened_by None Idle bl Restart l st' bl' h past line = absurd h
  opened_by None (Filling kept count) bl Restart l st' bl' h past line = absurd (done_opens_none h.answer)
  opened_by None (Running kept t) bl Restart l st' bl' h past line = absurd (done_opens_none h.answer)
  opened_by None (Finished kept) bl Restart l st' bl' h past line = absurd (done_opens_none h.answer)

  -- an answer is right after the calls that led to its state
  pub right_answer : (start : Pairs N) (past : List (Event N)) (st : State) (bl : Pairs N) → Reached m start past st bl → (c : Call N) (a : Result (Option Line) Refusal) (st' : State) (bl' : Pairs N) → Step m st bl c a st' bl' → RightAnswer m past a c
  right_answer start past st bl r c (Err x) st' bl' step = tt
  right_answer start past st bl r c (Ok None) st' bl' step = tt
  right_answer start past st bl r c (Ok (Some l)) st' bl' step =
      opened_by (declined m st bl c) st bl c l st' bl' step past
      (λ k e. opened_right N m ok start past st bl r k l st' bl' (subst (λ (d : Call N). Step m st bl d (Ok (Some l)) st' bl') e step))

  -- every answer of a run is right
  all_right : (start : Pairs N) (past : List (Event N)) (st : State) (bl : Pairs N) → Reached m start past st bl → (cs : List (Call N)) (ts : List (After N)) → Run m st bl cs ts → AllRight m past cs (answers_of ts)
  all_right start past st bl r [] [] h = tt
  all_right start past st bl r [] (t ∷ ts) h = absurd h
  all_right start past st bl r (c ∷ cs) [] h = absurd h
  all_right start past st bl r (c ∷ cs) (t ∷ ts) (st₁, s, h) = (
    right_answer start past st bl r c t.answer st₁ t.block s,
    all_right start (record { call = c; answer = t.answer } ∷ past) st₁ t.block (st, bl, r, s) cs ts h,
  )

  -- the whole run
  pub run_whole : (start : Pairs N) (cs : List (Call N)) (rs : Answers) (st : State) (bl : Pairs N) → SoFar m start cs rs st bl → RunOf m start cs rs bl
  run_whole start cs rs st bl h =
      let runs : Run m Idle start cs h.after = run_of m Idle start cs h.after st bl h.runs in
      record {
        after = h.after;
        runs = runs;
        answers = h.answers;
        last = run_last m Idle start cs h.after st bl h.runs;
        right = subst (λ (xs : Answers). AllRight m [] cs xs) h.answers (all_right start [] Idle start (refl, refl) cs h.after runs);
      }

-- a run ends with a block that equals its last
pub run_ends : {N : Type 0} {m : Meaning N} {start : Pairs N} {cs : List (Call N)} {rs : Answers} {bl bl' : Pairs N} → RunOf m start cs rs bl → bl' ≡ bl → RunOf m start cs rs bl'
run_ends h e = record { after = h.after; runs = h.runs; answers = h.answers; last = h.last ∙ sym e; right = h.right }
