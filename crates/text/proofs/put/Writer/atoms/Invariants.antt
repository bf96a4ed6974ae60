-- `atoms` meets its contract: the texts of the atoms passed are put, and they and those to come are the atoms of the set. Assumes nothing.
use mathlib.Core.Path.{◌≡◌}
use mathlib.Core.List.{◌++◌}
use Rattle.sets.specs.Sets.{members}
use Rattle.sets.specs.Masks.{mask_means}
use Rattle.search.specs.Listing.{atoms_text}
use Rattle.text.specs.Private.Putting.{Puts}
use Rattle.text.proofs.put.Writer.atoms.Given as goal

abbrev pub invariant-loop-a : goal.invariant-loop-a
invariant-loop-a l = record {
  put : Puts l.initial.self (atoms_text l.yielded) l.self;
  all : members (mask_means l.fn.set) ≡ l.yielded ++ members (mask_means l.a-iterator.left);
}
