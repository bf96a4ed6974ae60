-- `decimal` meets its contract: the digits of a tenth of the number, then the last. The number falls. Assumes nothing.
use Rattle.text.proofs.put.Writer.+decimal.Given as goal

abbrev pub decreases-decimal : goal.decreases-decimal
decreases-decimal l = l.n
