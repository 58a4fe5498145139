-- Which fault stands for a refused topic, and the numbers of the faults.
use Rattle.std.specs.Prelude.{ℕ}
use Rattle.sn_topic.specs.declared.fault.TopicFault.{TopicFault}
use Rattle.sn_topic.specs.declared.fault.TopicFault.TheVariants as topics
use Rattle.rep_op.specs.declared.fault.OpsFault.{OpsFault}
use Rattle.rep_op.specs.declared.fault.OpsFault.TheVariants as faults

-- octets that are no topic are a value out of range; that memory ran out stays the fault
abbrev pub fault_of_topic : TopicFault → OpsFault
fault_of_topic topics.Memory = faults.Memory
fault_of_topic fault = faults.Kind

-- the number by which reports name a fault
abbrev pub ops_fault_number : OpsFault → ℕ
ops_fault_number faults.Twice = 1
ops_fault_number faults.Limit = 2
ops_fault_number faults.Memory = 3
ops_fault_number faults.Truncated = 4
ops_fault_number faults.Version = 5
ops_fault_number faults.Kind = 6
ops_fault_number faults.Order = 7
ops_fault_number faults.Trailing = 8
