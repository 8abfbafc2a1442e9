-- What `try_fold` gives over a list, where each call takes what holds after n items to what holds after n + 1.
use Rattle.std.proofs.Common.{◌≡◌, ℕ, ◌+◌, ◌<◌, List, [], ◌∷◌, ◌++◌, map, length, get_or, drop, Some, None, Option, MatchOption, IfSome, ControlFlow, sym, refl, ap, ◌∙◌, subst, append_assoc, arith}
use Rattle.std.proofs.lemmas.List.{map-append, take-append-drop, drop_more, append-nil, length-append, length-map}
use Rattle.std.proofs.lemmas.Iterator.{YieldsList}
use Rattle.std.proofs.lemmas.Iterator.Consumers.{YieldsList-so_far, YieldsList-turn, YieldsList-end}
use Rattle.std.proofs.lemmas.Fn.{chained_keeps}
use Rattle.std.specs.ControlFlow.{continue_value}
use Rattle.std.specs.Fn.{Called}
use Rattle.std.specs.Iterator.{TryFoldsItems, TryFoldTurn}
use denote.Param.Members.{Mut}

after : {B : Type 0} (ys : List B) (z d : B) (rest : List B) → get_or (ys ++ (z ∷ rest)) (length ys) d ≡ z
after [] z d rest = refl
after (y ∷ ys) z d rest = after ys z d rest

module _ {A B C F : Type 0} (v : A → B) (g : Mut F (C × (A × Unit {0})) (Option C)) (J : ℕ → C → Type 0) (f : F) (all : List B) where
  -- x is item n
  abbrev pub At : ℕ → A → Type 0
  At n x = (n < length all) × (v x ≡ get_or all n (v x))

  -- each call leaves the closure as it was, and what it answers at item n holds after n + 1 items
  abbrev pub Keeps : Type 0
  Keeps = (n : ℕ) (a : C) (x : A) (r : Option C) (q : F) → Called g f (a, (x, tt)) r q → (q ≡ f) × (At n x → J n a → IfSome r (J (n + 1)))

  -- an answer holds after all items; there is none only where a call at an item gave none
  abbrev pub Folded : Option C → Type 0
  Folded r = MatchOption r ((n : ℕ) × (a : C) × (x : A) × (q : F) × At n x × J n a × Called g f (a, (x, tt)) None q) (J (length all))

  abbrev Reached : List A → F × C → Type 0
  Reached xs q = (q.0 ≡ f) × ((rest : List B) → map v xs ++ rest ≡ all → J (length xs) q.1)

  item_at : (xs : List A) (x : A) (rest : List B) → map v xs ++ (v x ∷ rest) ≡ all → At (length xs) x
  item_at xs x rest e =
      let n : length (map v xs) ≡ length xs = length-map xs v in
      let here : get_or (map v xs ++ (v x ∷ rest)) (length (map v xs)) (v x) ≡ v x = after (map v xs) (v x) (v x) rest in
      subst (λ l. (length xs < length l) × (v x ≡ get_or l (length xs) (v x))) e (omega (arith, n, length-append (map v xs) (v x ∷ rest)), rw n at (sym here))

  reached_more : (E : Type 0) → Keeps → (xs : List A) (q : F × C) (x : A) (w : F × C) → Reached xs q → TryFoldTurn g (λ r (t : ControlFlow E C). r ≡ continue_value t) q x w → Reached (xs ++ x ∷ []) w
  reached_more E keeps xs q x w before (r, call, goes) =
      let step = keeps (length xs) q.1 x r w.0 (subst (λ k. Called g k (q.1, (x, tt)) r w.0) before.0 call) in
      let count : length (xs ++ x ∷ []) ≡ length xs + 1 = omega (arith, length-append xs (x ∷ [])) in (
        step.0,
        λ rest e.
            let split : map v xs ++ (v x ∷ rest) ≡ all = rw (map-append v xs (x ∷ []), append_assoc (map v xs) (v x ∷ []) rest) at e in
            subst (λ n. J n w.1) (sym count) (subst (λ o. IfSome o (J (length xs + 1))) goes (step.1 (item_at xs x rest split) (before.1 (v x ∷ rest) split))),
      )

  pub try_folded : {S E : Type 0} (steps : S → Option A → S → Type 0) → Keeps → (s u : S) (init : C) (r : Option C) → J 0 init → TryFoldsItems steps g (λ r (t : ControlFlow E C). r ≡ continue_value t) (λ e r. r ≡ None) s f init r u → YieldsList steps v s all → Folded r
  try_folded {S} {E} steps keeps s u init r start (xs, o, f', a, (t, yields, last), folds, ends) list =
      let reached : Reached xs (f', a) = chained_keeps {P = F × C} (TryFoldTurn g (λ r (t : ControlFlow E C). r ≡ continue_value t)) Reached (reached_more E keeps) xs (f, init) (f', a) (refl, λ rest e. start) folds in
      by_last reached o last ends
    where
      by_last : Reached xs (f', a) → (o : Option A) → steps t o u → MatchOption o (r ≡ Some a) (λ x. (v : Option C) × (h : F) × (e : E) × Called g f' (a, (x, tt)) v h × (v ≡ None) × (r ≡ None)) → Folded r
      by_last reached None last ends =
          let end = YieldsList-end list xs t yields None u refl last in
          subst Folded (sym ends) (subst (λ n. J n a) end.1 (reached.1 [] (append-nil (map v xs) ∙ end.0)))
      by_last reached (Some x) last (val, k, e, call, breaks, none) =
          let turn = YieldsList-turn list xs t yields (Some x) u x refl last in
          let n = length xs in
          let later = drop (n + 1) all in
          let left : drop n all ≡ v x ∷ later = drop_more all n (v x) turn.0 ∙ ap (λ y. y ∷ later) (sym turn.1) in
          let whole : all ≡ map v xs ++ (v x ∷ later) = sym (take-append-drop n all) ∙ (ap (λ z. z ++ drop n all) (sym (YieldsList-so_far list xs t yields)) ∙ ap (λ z. map v xs ++ z) left) in
          subst Folded (sym none) (n, a, x, k, turn, reached.1 (v x ∷ later) (sym whole), subst (λ o. Called g f (a, (x, tt)) o k) breaks (subst (λ j. Called g j (a, (x, tt)) val k) reached.0 call))
