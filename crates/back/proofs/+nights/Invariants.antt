-- What each call of `back::nights` by itself makes smaller: the names that are left.
use Rattle.std.proofs.Common.{length}
use Rattle.back.proofs.+nights.Given as goal

abbrev pub decreases-nights : goal.decreases-nights
decreases-nights g l = length l.names.now
