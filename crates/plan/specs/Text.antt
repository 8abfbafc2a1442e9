-- The texts of a plan and of its figures.
use Rattle.std.specs.Prelude.{ℕ, List, ◌++◌, codes, decimal}
use Rattle.plan.specs.declared.figures.Figures.{Figures}
use Rattle.plan.specs.declared.plan.Plan.{Plan}
use Rattle.plan.specs.Methods.{name}

-- 'radix 2, size 16, sample scale 100, twiddle scale 10'
abbrev pub plan_text : Plan → List ℕ
plan_text p = name p.method ++ (codes ", size " ++ (decimal p.size ++ (codes ", sample scale " ++ (decimal p.sample_scale ++ (codes ", twiddle scale " ++ decimal p.twiddle_scale)))))

-- 'scale 100, bound 270400, distance 36800'
abbrev pub figures_text : Figures → List ℕ
figures_text f = codes "scale " ++ (decimal f.scale ++ (codes ", bound " ++ (decimal f.bound ++ (codes ", distance " ++ decimal f.distance))))
