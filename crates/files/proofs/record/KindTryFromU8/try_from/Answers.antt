-- `Kind::try_from` gives what `KindOf` says: a byte that is none of the four kinds is unknown. Assumes nothing.
use Rattle.std.proofs.Common.{arith, refl}
use Rattle.std.proofs.lemmas.Bool.Decides.{nat_tests}
use Rattle.board.specs.File.{known_kind}
use Rattle.files.proofs.record.KindTryFromU8.try_from.Goals as goal

pub returns-in_default : goal.returns-in_default
unfolding known_kind
returns-in_default c = (grind (arith, nat_tests), refl)
