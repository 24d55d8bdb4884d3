use Rattle.std.proofs.Common.{◌≡◌, ◌≤◌, filter_map, length, take}
use Rattle.caldate_args.specs.Events.{midnight_of}
use Rattle.caldate_args.proofs.events.event_times.midnights.Given as goal

abbrev pub invariant-loop-value : goal.invariant-loop-value
invariant-loop-value l = (l.readings ≡ filter_map midnight_of (take l.value-index l.values)) × (length l.readings ≤ l.value-index)
