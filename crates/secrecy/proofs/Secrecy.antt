-- Neither house's numbers tell the samples.
use Rattle.std.proofs.Common.{◌≡◌, ℕ, Bool, true, List, None, refl}
use Rattle.integers.specs.declared.Complex.{Complex}
use Rattle.integers.specs.Modulus.{is_modulus}
use Rattle.split.specs.declared.halves.Halves.{Halves}
use Rattle.states.specs.declared.State.TheVariants.{Idle}
use Rattle.states.specs.declared.Call.{Call}
use Rattle.states.specs.Step.{Pairs}
use Rattle.secrecy.specs.Secrecy.{After, answers_of, Run, SecondSamples, Indistinguishable, SecrecyStands}
use Rattle.secrecy.specs.Masks.{masks}
use Rattle.secrecy.proofs.Blocks.{shares}
use Rattle.secrecy.proofs.Runs.{masks_serve, runs_same}
use Rattle.secrecy.proofs.Following.{runs_exist_lem}

-- with the masks that are computed from the first run
pub masked : (n : ℕ) → is_modulus n ≡ true → (h : Bool) (start : Pairs (Halves ℕ)) (cs : List (Call (Halves ℕ))) (ts : List (After (Halves ℕ))) → Run (shares n) Idle start cs ts → (zs : List Complex) → SecondSamples None cs (answers_of ts) zs → Indistinguishable n h start cs ts zs (masks n h cs (answers_of ts) zs)
masked n modulus h start cs ts k zs s =
    let f = masks_serve n modulus h cs ts None Idle start zs tt k s in
    record {
      many = f.many;
      below = f.below;
      sealed = f.sealed;
      runs = runs_exist_lem n modulus h cs ts None Idle start start zs tt refl k s;
      same = runs_same n modulus h cs ts None Idle start start zs tt refl k s;
    }

pub secrecy_stands : SecrecyStands
secrecy_stands n modulus h start cs ts k zs s = (masks n h cs (answers_of ts) zs, masked n modulus h start cs ts k zs s)
