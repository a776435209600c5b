-- What is written for faults, and the numbers of the faults of live calls.
use Rattle.std.specs.Prelude.{ℕ, List, codes}
use Rattle.live_book.specs.declared.faults.BookFault.{BookFault}
use Rattle.live_book.specs.declared.faults.BookFault.TheVariants as book
use Rattle.live_book.specs.declared.faults.LiveFault.{LiveFault}
use Rattle.live_book.specs.declared.faults.LiveFault.TheVariants as live

abbrev pub book_fault_text : BookFault → List ℕ
book_fault_text book.RecordFull = codes "the record has too few free places"
book_fault_text book.NoMonitor = codes "every monitor is bound"
book_fault_text book.NotDue = codes "no wait of the thread is over"
book_fault_text book.Parked = codes "no reply is granted"
book_fault_text book.Backwards = codes "the moment would fall"

abbrev pub live_fault_name : LiveFault → List ℕ
live_fault_name live.Backwards = codes "Backwards"
live_fault_name live.RecordFull = codes "RecordFull"
live_fault_name live.Torn = codes "Torn"
live_fault_name live.NoObject = codes "NoObject"
live_fault_name live.NoThread = codes "NoThread"

abbrev pub live_fault_number : LiveFault → ℕ
live_fault_number live.Backwards = 10
live_fault_number live.RecordFull = 16
live_fault_number live.Torn = 18
live_fault_number live.NoObject = 19
live_fault_number live.NoThread = 20
