-- What `try_fold` gives over a list, at a closure that answers what a function answers.
use Rattle.std.proofs.Common.{◌≡◌, ◌+◌, List, [], ◌∷◌, ◌++◌, map, length, drop, Some, None, Option, MatchOption, ControlFlow, sym, refl, ap, ◌∙◌, subst, append_assoc}
use Rattle.std.proofs.lemmas.List.{map-append, take-append-drop, drop_more, append-nil}
use Rattle.std.proofs.lemmas.Iterator.{YieldsList}
use Rattle.std.proofs.lemmas.Iterator.Consumers.{YieldsList-so_far, YieldsList-turn, YieldsList-end}
use Rattle.std.proofs.lemmas.Fn.{chained_keeps}
use Rattle.std.specs.ControlFlow.{continue_value}
use Rattle.std.specs.Fn.{Called}
use Rattle.std.specs.Iterator.{TryFoldsItems, TryFoldTurn}
use denote.Param.Members.{Mut}
use Rattle.command.specs.Decoding.{also}

-- h over the items, from a, for as long as it answers
abbrev pub folded : {A B : Type 0} → (A → B → Option A) → A → List B → Option A
folded h a [] = Some a
folded h a (x ∷ xs) = also (h a x) (λ b. folded h b xs)

module _ {A B C F : Type 0} (v : A → B) (g : Mut F (C × (A × Unit {0})) (Option C)) (h : C → B → Option C) (f : F) (init : C) where
  -- the items so far have taken the first value to the present one
  abbrev Reached : List A → F × C → Type 0
  Reached xs q = (q.0 ≡ f) × ((rest : List B) → folded h init (map v xs ++ rest) ≡ folded h q.1 rest)

  -- each call leaves the closure as it was and answers what h does
  abbrev pub Computes : Type 0
  Computes = (a : C) (x : A) (r : Option C) (q : F) → Called g f (a, (x, tt)) r q → (q ≡ f) × (r ≡ h a (v x))

  reached_more : (E : Type 0) → Computes → (xs : List A) (q : F × C) (x : A) (w : F × C) → Reached xs q → TryFoldTurn g (λ r (t : ControlFlow E C). r ≡ continue_value t) q x w → Reached (xs ++ x ∷ []) w
  reached_more E computes xs q x w before (r, call, goes) =
      let same = computes q.1 x r w.0 (subst (λ k. Called g k (q.1, (x, tt)) r w.0) before.0 call) in
      let next : h q.1 (v x) ≡ Some w.1 = sym same.1 ∙ goes in
      (same.0, λ rest. rw (map-append v xs (x ∷ []), append_assoc (map v xs) (v x ∷ []) rest) (before.1 (v x ∷ rest) ∙ ap (λ o. also o (λ b. folded h b rest)) next))

  pub try_folded : {S E : Type 0} (steps : S → Option A → S → Type 0) → Computes → (s u : S) (all : List B) (r : Option C) → TryFoldsItems steps g (λ r (t : ControlFlow E C). r ≡ continue_value t) (λ e r. r ≡ None) s f init r u → YieldsList steps v s all → r ≡ folded h init all
  try_folded {S} {E} steps computes s u all r (xs, o, f', a, (t, yields, last), folds, ends) list =
      let reached : Reached xs (f', a) = chained_keeps {P = F × C} (TryFoldTurn g (λ r (t : ControlFlow E C). r ≡ continue_value t)) Reached (reached_more E computes) xs (f, init) (f', a) (refl, λ rest. refl) folds in
      by_last reached o last ends
    where
      by_last : Reached xs (f', a) → (o : Option A) → steps t o u → MatchOption o (r ≡ Some a) (λ x. (v : Option C) × (h : F) × (e : E) × Called g f' (a, (x, tt)) v h × (v ≡ None) × (r ≡ None)) → r ≡ folded h init all
      by_last reached None last ends = ends ∙ (sym (reached.1 []) ∙ ap (folded h init) (append-nil (map v xs) ∙ (YieldsList-end list xs t yields None u refl last).0))
      by_last reached (Some x) last (val, k, e, call, breaks, none) =
          let turn = YieldsList-turn list xs t yields (Some x) u x refl last in
          let n = length xs in
          let later = drop (n + 1) all in
          let stops : h a (v x) ≡ None = sym (computes a x val k (subst (λ j. Called g j (a, (x, tt)) val k) reached.0 call)).1 ∙ breaks in
          let left : drop n all ≡ v x ∷ later = drop_more all n (v x) turn.0 ∙ ap (λ y. y ∷ later) (sym turn.1) in
          let whole : all ≡ map v xs ++ (v x ∷ later) = sym (take-append-drop n all) ∙ (ap (λ z. z ++ drop n all) (sym (YieldsList-so_far list xs t yields)) ∙ ap (λ z. map v xs ++ z) left) in
          none ∙ sym (ap (folded h init) whole ∙ (reached.1 (v x ∷ later) ∙ ap (λ o. also o (λ b. folded h b later)) stops))
