use Rattle.std.specs.Prelude.{ℕ}
use Rattle.sn_topic.specs.declared.fault.TopicFault.{TopicFault}
use Rattle.sn_topic.specs.declared.fault.TopicFault.TheVariants.{Empty, TooLong, Wildcard, Memory, Id}

-- the number by which reports name a fault
abbrev pub topic_fault_number : TopicFault → ℕ
topic_fault_number Empty = 1
topic_fault_number TooLong = 2
topic_fault_number Wildcard = 3
topic_fault_number Memory = 4
topic_fault_number Id = 5
