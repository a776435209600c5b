-- What is written for causes, replies, actions and faults; and the numbers of causes.
use Rattle.std.specs.Prelude.{ℕ, List, ◌++◌, codes}
use Rattle.fat_monitor.specs.declared.actions.Cause.{Cause}
use Rattle.fat_monitor.specs.declared.actions.Cause.TheVariants as cause
use Rattle.fat_monitor.specs.declared.actions.Reply.{Reply}
use Rattle.fat_monitor.specs.declared.actions.Reply.TheVariants as reply
use Rattle.fat_monitor.specs.declared.actions.Action.{Action}
use Rattle.fat_monitor.specs.declared.actions.Action.TheVariants as action
use Rattle.fat_monitor.specs.declared.actions.ActFault.{ActFault}
use Rattle.fat_monitor.specs.declared.actions.ActFault.TheVariants as act_fault
use Rattle.fat_monitor.specs.declared.monitors.AttachFault.{AttachFault}
use Rattle.fat_monitor.specs.declared.monitors.AttachFault.TheVariants as fault

abbrev pub cause_name : Cause → List ℕ
cause_name cause.NoMonitor = codes "NoMonitor"
cause_name cause.Memory = codes "Memory"
cause_name cause.TooDeep = codes "TooDeep"
cause_name cause.StillOwner = codes "StillOwner"
cause_name cause.NoThread = codes "NoThread"

abbrev pub cause_number : Cause → ℕ
cause_number cause.NoMonitor = 11
cause_number cause.Memory = 12
cause_number cause.TooDeep = 13
cause_number cause.StillOwner = 14
cause_number cause.NoThread = 15

-- a refusal is written with its cause behind it
abbrev pub reply_name : Reply → List ℕ
reply_name reply.Entered = codes "Entered"
reply_name reply.Exited = codes "Exited"
reply_name reply.WaitOver = codes "WaitOver"
reply_name reply.Interrupted = codes "Interrupted"
reply_name reply.Notified = codes "Notified"
reply_name reply.Yes = codes "Yes"
reply_name reply.No = codes "No"
reply_name reply.Done = codes "Done"
reply_name reply.Ended = codes "Ended"
reply_name reply.IllegalMonitorState = codes "IllegalMonitorState"
reply_name reply.IllegalArgument = codes "IllegalArgument"
reply_name (reply.Refused c) = codes "Refused " ++ cause_name c

-- an action is written by its name alone
abbrev pub action_name : Action → List ℕ
action_name (action.Enter m) = codes "Enter"
action_name (action.Exit m) = codes "Exit"
action_name (action.Wait m millis nanos) = codes "Wait"
action_name (action.Notify m) = codes "Notify"
action_name (action.NotifyAll m) = codes "NotifyAll"
action_name (action.Holds m) = codes "Holds"
action_name (action.Interrupt u) = codes "Interrupt"
action_name action.Interrupted = codes "Interrupted"
action_name (action.IsInterrupted u) = codes "IsInterrupted"
action_name action.Expire = codes "Expire"
action_name action.Spurious = codes "Spurious"
action_name action.Collect = codes "Collect"
action_name action.End = codes "End"

abbrev pub fault_text : AttachFault → List ℕ
fault_text fault.Known = codes "the thread is attached already"
fault_text fault.Memory = codes "out of memory"

abbrev pub act_fault_text : ActFault → List ℕ
act_fault_text act_fault.Parked = codes "no reply is granted"
act_fault_text act_fault.NotDue = codes "no wait of the thread is over"
act_fault_text act_fault.NotWaiting = codes "the thread does not wait"

abbrev pub backwards_text : List ℕ
backwards_text = codes "the moment would fall"
