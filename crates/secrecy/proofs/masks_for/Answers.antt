use Rattle.std.proofs.Common.{rules, refl, length, ◌≡◌, ℕ, Bool, List, IfOk, map, vec_items, sym, ap, ◌∙◌, subst}
use Rattle.std.specs.List.{zip}
use Rattle.std.specs.Iterator.Adapters.{zip_second}
use Rattle.std.specs.Slice.Iter.{iter_rest}
use Rattle.std.proofs.lemmas.Iterator.{YieldsList-from_slice, YieldsList-from_zip, YieldsList-from_map, items_from_collect}
use Rattle.std.proofs.lemmas.Iterator.Consumers.{YieldsList-at}
use Rattle.std.proofs.lemmas.List.{take_min, reverse-reverse}
use Rattle.std.proofs.lemmas.Result.{IfOk-weaker}
use Rattle.integers.specs.declared.Complex.{Complex}
use Rattle.secrecy.specs.Secrecy.{Indistinguishable}
use Rattle.secrecy.specs.Masks.{Serve, side, words, words_of}
use Rattle.secrecy.proofs.Blocks.{Pair}
use Rattle.secrecy.proofs.Words.{words_mapped, modulus_lawful, zip_take}
use Rattle.secrecy.proofs.Secrecy.{masked}
use Rattle.secrecy.proofs.masks_for.Goals as goal

pub returns-clause-value : goal.returns-clause-value
returns-clause-value c =
    let n : ℕ = c.args.n.n in
    let h : Bool = side c.args.house in
    let xs : List Pair = c.args.pairs.now in
    let zs : List Complex = c.args.samples.now in
    let f : Pair × Complex → ℕ × ℕ = λ p. words n h p.1 p.0 in
    -- ws is what is zipped to the pairs. The body zips the samples as they are; the laws of cut and of reversed lists are there for bodies
    -- that mean the same, so that must-fail/masks_backwards is refused for the order, and not for its copy or for `reverse`.
    let ws : List Complex = iter_rest (zip_second c.zip.result) in
    let same : zip xs ws ≡ zip xs zs = search (rules, zip_take xs zs, take_min (length xs) zs, reverse-reverse {A = Complex}) in
    let made : IfOk c.collect.result (λ v. vec_items v ≡ map f (zip xs ws)) =
    items_from_collect _ c.collect.ensures.ran (YieldsList-from_map _ f (YieldsList-at c.map.ensures.source (YieldsList-from_zip (YieldsList-from_slice xs (cc)) (YieldsList-from_slice ws refl))) c.map.ensures.closure (λ x r q k. search rules)) in
    IfOk-weaker c.collect.result (λ v. vec_items v ≡ map f (zip xs ws)) (λ v. vec_items v ≡ words_of n h xs zs) (λ v e. e ∙ ap (map f) same ∙ words_mapped n h xs zs) made

pub returns-clause-law : goal.returns-clause-law
returns-clause-law c =
    let n : ℕ = c.args.n.n in
    let h : Bool = side c.args.house in
    let xs : List Pair = c.args.pairs.now in
    let zs : List Complex = c.args.samples.now in
    IfOk-weaker c.collect.result (λ v. vec_items v ≡ words_of n h xs zs) (λ v. Serve n h xs zs (vec_items v))
    (λ v e start cs ts k l s. subst (λ (ws : List (ℕ × ℕ)). Indistinguishable n h start cs ts zs ws) (ap (λ (ys : List Pair). words_of n h ys zs) l ∙ sym e) (masked n (modulus_lawful n c.args.n.odd c.args.n.least c.args.n.most) h start cs ts k zs s))
    (returns-clause-value c)
