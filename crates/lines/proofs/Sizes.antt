-- The number of stages at a lawful size: the size is that power of the radix.
use mathlib.Core.Path.{◌≡◌, refl}
use mathlib.Core.Bool.{true}
use Prim.Native.Nat.{ℕ, ◌^◌}
use Rattle.plan.specs.declared.method.Method.TheVariants.{Radix2, Radix4}
use Rattle.plan.specs.Methods.{sizes, sized}
use Rattle.plan.proofs.Powers.{carried}
use Rattle.lines.specs.Lines.{divisions, stage_count}

pub size2 : (m : ℕ) → sized Radix2 m ≡ true → 2 ^ stage_count Radix2 m ≡ m
unfolding divisions
size2 = carried (λ m. 2 ^ stage_count Radix2 m ≡ m) (sizes Radix2) (refl, (refl, (refl, (refl, (refl, (refl, (refl, (refl, (refl, tt)))))))))

pub size4 : (m : ℕ) → sized Radix4 m ≡ true → 4 ^ stage_count Radix4 m ≡ m
unfolding divisions
size4 = carried (λ m. 4 ^ stage_count Radix4 m ≡ m) (sizes Radix4) (refl, (refl, (refl, (refl, (refl, tt)))))
