-- The status with which a run ends that a fault stops, and the number of each status, with which the program ends.
use Rattle.std.specs.Prelude.{ℕ}
use Rattle.report.specs.declared.fault_lines.Fault.{Fault}
use Rattle.report.specs.declared.fault_lines.Fault.TheVariants as fault
use Rattle.command_courses.specs.declared.status.Status.{Status}
use Rattle.command_courses.specs.declared.status.Status.TheVariants as status

abbrev pub status_of : Fault → Status
status_of fault.Usage = status.Usage
status_of (fault.Read place) = status.ReadFault
status_of (fault.TooLong place) = status.TooLong
status_of (fault.Text first) = status.BadText
status_of (fault.UnknownName name) = status.UnknownName
status_of (fault.Day word) = status.DayRange
status_of (fault.Refused name rule node) = status.Refused
status_of (fault.Row place row) = status.BadRow
status_of (fault.Missing label day) = status.Missing
status_of (fault.Scenarios count) = status.TooMany
status_of (fault.MissingIn label day scenario) = status.Missing

abbrev pub number_of : Status → ℕ
number_of status.Done = 0
number_of status.Refused = 1
number_of status.Usage = 2
number_of status.ReadFault = 3
number_of status.WriteFault = 4
number_of status.TooLong = 5
number_of status.BadText = 6
number_of status.BadRow = 7
number_of status.Missing = 8
number_of status.NoMemory = 9
number_of status.UnknownName = 10
number_of status.DayRange = 11
number_of status.TooMany = 12
