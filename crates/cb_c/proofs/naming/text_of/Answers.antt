use Rattle.std.proofs.Common.{ap, sym}
use Rattle.std.specs.Fmt.{digits}
use Rattle.cb_base.specs.Fault.{fault_text}
use Rattle.cb_c.proofs.naming.text_of.Goals as goal

pub returns-in-Memory : goal.returns-in-Memory
unfolding digits
returns-in-Memory c = ap fault_text (sym c.in-Memory.is)

pub returns-in-Truncated : goal.returns-in-Truncated
unfolding digits
returns-in-Truncated c = ap fault_text (sym c.in-Truncated.is)

pub returns-in-NotShortest : goal.returns-in-NotShortest
unfolding digits
returns-in-NotShortest c = ap fault_text (sym c.in-NotShortest.is)

pub returns-in-TooMany : goal.returns-in-TooMany
unfolding digits
returns-in-TooMany c = ap fault_text (sym c.in-TooMany.is)

pub returns-in-BadRoot : goal.returns-in-BadRoot
unfolding digits
returns-in-BadRoot c = ap fault_text (sym c.in-BadRoot.is)

pub returns-in-Mutated : goal.returns-in-Mutated
unfolding digits
returns-in-Mutated c = ap fault_text (sym c.in-Mutated.is)

pub returns-in-Size64 : goal.returns-in-Size64
unfolding digits
returns-in-Size64 c = ap fault_text (sym c.in-Size64.is)

pub returns-in-Empty : goal.returns-in-Empty
unfolding digits
returns-in-Empty c = ap fault_text (sym c.in-Empty.is)

pub returns-in-BadCoinbase : goal.returns-in-BadCoinbase
unfolding digits
returns-in-BadCoinbase c = ap fault_text (sym c.in-BadCoinbase.is)

pub returns-in-BadWork : goal.returns-in-BadWork
unfolding digits
returns-in-BadWork c = ap fault_text (sym c.in-BadWork.is)

pub returns-in-BadMagic : goal.returns-in-BadMagic
unfolding digits
returns-in-BadMagic c = ap fault_text (sym c.in-BadMagic.is)

pub returns-in-Oversize : goal.returns-in-Oversize
unfolding digits
returns-in-Oversize c = ap fault_text (sym c.in-Oversize.is)

pub returns-in-Trailing : goal.returns-in-Trailing
unfolding digits
returns-in-Trailing c = ap fault_text (sym c.in-Trailing.is)

pub returns-in-BadBool : goal.returns-in-BadBool
unfolding digits
returns-in-BadBool c = ap fault_text (sym c.in-BadBool.is)

pub returns-in-BadIndex : goal.returns-in-BadIndex
unfolding digits
returns-in-BadIndex c = ap fault_text (sym c.in-BadIndex.is)

pub returns-in-WrongCount : goal.returns-in-WrongCount
unfolding digits
returns-in-WrongCount c = ap fault_text (sym c.in-WrongCount.is)

pub returns-in-Known : goal.returns-in-Known
unfolding digits
returns-in-Known c = ap fault_text (sym c.in-Known.is)

pub returns-in-NoInput : goal.returns-in-NoInput
unfolding digits
returns-in-NoInput c = ap fault_text (sym c.in-NoInput.is)

pub returns-in-PoolFull : goal.returns-in-PoolFull
unfolding digits
returns-in-PoolFull c = ap fault_text (sym c.in-PoolFull.is)

pub returns-in-Overspent : goal.returns-in-Overspent
unfolding digits
returns-in-Overspent c = ap fault_text (sym c.in-Overspent.is)

pub returns-in-Remade : goal.returns-in-Remade
unfolding digits
returns-in-Remade c = ap fault_text (sym c.in-Remade.is)

pub returns-in-NoParent : goal.returns-in-NoParent
unfolding digits
returns-in-NoParent c = ap fault_text (sym c.in-NoParent.is)

pub returns-in-BadParent : goal.returns-in-BadParent
unfolding digits
returns-in-BadParent c = ap fault_text (sym c.in-BadParent.is)

pub returns-in-JournalFull : goal.returns-in-JournalFull
unfolding digits
returns-in-JournalFull c = ap fault_text (sym c.in-JournalFull.is)

pub returns-in-NotEnabled : goal.returns-in-NotEnabled
unfolding digits
returns-in-NotEnabled c = ap fault_text (sym c.in-NotEnabled.is)

pub returns-in-Full : goal.returns-in-Full
unfolding digits
returns-in-Full c = ap fault_text (sym c.in-Full.is)

pub returns-in-NoMore : goal.returns-in-NoMore
unfolding digits
returns-in-NoMore c = ap fault_text (sym c.in-NoMore.is)
