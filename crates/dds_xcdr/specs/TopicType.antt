-- The type of a topic.
use Rattle.dds_xcdr.specs.declared.topic_type.TopicType.{TopicType}
use Rattle.dds_xcdr.specs.Xtype.{Xtype}
use Rattle.dds_xcdr.specs.Types.{type_in, types_of}

-- what its id names
abbrev pub topic_type : TopicType → Xtype
topic_type t = type_in (types_of t.types) t.of
