-- Numbers that fit their types: transactions and keys of 32 bits, and values of 64 bits with a sign.
use Rattle.std.specs.Prelude.{◌<◌, ◌^◌, IfSome, Option, ℤ}
use lib.Signed.{mag}
use Rattle.teb_rules.specs.declared.names.Txn.{Txn}
use Rattle.teb_rules.specs.declared.names.Cell.{Cell}
use Rattle.teb_rules.specs.declared.names.Cause.{Cause}
use Rattle.teb_rules.specs.declared.names.Cause.TheVariants as cause
use Rattle.teb_rules.specs.declared.history.Event.{Event}
use Rattle.teb_rules.specs.declared.history.Event.TheVariants as event

abbrev pub TxnFits : Txn → Type 0
TxnFits t = t.0 < 2 ^ 32

abbrev pub KeyFits : Cell → Type 0
KeyFits x = x.key < 2 ^ 32

abbrev pub IntegerFits : ℤ → Type 0
IntegerFits v = mag v < 2 ^ 63

abbrev pub ValueFits : Option ℤ → Type 0
ValueFits v = IfSome v IntegerFits

-- all numbers of a cause, of an event and of a row
abbrev pub CauseInRange : Cause → Type 0
CauseInRange (cause.Late n r x) = TxnFits r × KeyFits x
CauseInRange (cause.First n w x) = TxnFits w × KeyFits x
CauseInRange (cause.Pivot n a b c d) = TxnFits a × TxnFits b × TxnFits c × TxnFits d
CauseInRange (cause.Newer n u) = TxnFits u
CauseInRange (cause.After u) = TxnFits u
CauseInRange _ = Unit {0}

abbrev pub EventInRange : Event → Type 0
EventInRange (event.Began t s k i) = TxnFits t × (i < 2 ^ 32)
EventInRange (event.Got t x u v) = TxnFits t × KeyFits x × TxnFits u × ValueFits v
EventInRange (event.Put t x v) = TxnFits t × KeyFits x × ValueFits v
EventInRange (event.Ready t) = TxnFits t
EventInRange (event.Done t) = TxnFits t
EventInRange (event.Gone t c) = TxnFits t × CauseInRange c
EventInRange (event.Told t) = TxnFits t

abbrev pub RowInRange : Cell × ℤ → Type 0
RowInRange r = KeyFits r.0 × IntegerFits r.1
