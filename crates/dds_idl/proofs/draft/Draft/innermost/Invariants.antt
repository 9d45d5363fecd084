use Rattle.std.proofs.Common.{◌≡◌, take}
use Rattle.std.specs.Prelude.{string_bytes}
use Rattle.dds_idl.specs.Names.{innermost}
use Rattle.dds_idl.proofs.draft.Draft.innermost.Given as goal

abbrev pub invariant-loop-prefix : goal.invariant-loop-prefix
invariant-loop-prefix l =
    string_bytes l.found
    ≡ innermost l.self.made.names (take l.prefix-index l.self.prefixes.items) l.name
