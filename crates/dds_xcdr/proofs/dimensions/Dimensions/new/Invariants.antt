use Rattle.std.proofs.Common.{◌≡◌, ◌<◌, ◌*◌, ◌^◌, drop}
use Rattle.dds_xcdr.specs.Product.{product}
use Rattle.dds_xcdr.proofs.dimensions.Dimensions.new.Given as goal

abbrev pub invariant-sizes : goal.invariant-sizes
invariant-sizes l = record {
  counted : l.count * product (drop l.size-index l.size-items) ≡ product l.size-items;
  some : 0 < l.count;
  fits : l.count < 2 ^ 32;
}
