-- A session ends: each scheme that is chosen leaves fewer lines.
use Rattle.std.proofs.Common.{ℕ, suc, List, [], Some, None, Option}
use Rattle.session.specs.declared.schemes.Chosen.{Chosen}
use Rattle.session.specs.Session.{Decoded, Answer, absent}
use Rattle.session.specs.Replies.{SessionOf}
use Rattle.session.specs.Serving.{Served}
use Rattle.session.proofs.Consoles.{turns_right, turns_reach}

-- at most so many schemes are still to come
abbrev pub turns_left : Option Chosen → ℕ → ℕ
turns_left None n = 0
turns_left (Some s) n = suc n

pub session_whole : (ds : List Decoded) (rs : List Answer) → Served absent ds rs None → SessionOf ds rs
session_whole ds rs (end, turns) = record { end = end; turns = turns; right = turns_right absent ds rs end [] tt turns; reachable = turns_reach absent ds rs end [] tt turns }
