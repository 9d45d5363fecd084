use Rattle.std.proofs.Common.{◌∙◌, true, false, refl, sym, ap, List, ℕ}
use Rattle.rtps_types.specs.declared.field.Endian.{Endian}
use Rattle.dds_xcdr.specs.declared.node.Node.TheVariants as node
use Rattle.dds_xcdr.specs.Product.{product}
use Rattle.dds_xcdr.specs.Xtype.{Xtype, Enum, Struct, Text, number_size}
use Rattle.dds_xcdr.specs.Xcdr.{has_header}
use Rattle.dds_xcdr.specs.Spans.{AreCountedItems, AreItems}
use Rattle.dds_xcdr.specs.Types.{fields_in, type_in, types_of, values_of}
use Rattle.dds_xcdr.proofs.Alike.{items_alike, value_alike, value_known}
use Rattle.dds_xcdr.proofs.Described.{means}
use Rattle.dds_xcdr.proofs.Headers.{array_passes, counted_passes, counted_short, counted_too_long, headed_ends, headed_faulty, headed_short, sequence_passes}
use Rattle.dds_xcdr.proofs.Items.{item_fails, item_passed, items_done, member_fails, member_passed, members_done}
use Rattle.dds_xcdr.proofs.walk.+walk.Goals as goal

-- ---- by the description

pub skip-returns-in-Enum : goal.skip-returns-in-Enum
skip-returns-in-Enum t c =
    let types : List Xtype = types_of c.args.types.now in
    let x = c.args.reader.now in
    let y = c.skip_numbers.new.reader in
    value_known c.args.version (Enum (values_of c.in-Enum.field-0.items)) (type_in types c.args.of) x y c.skip_numbers.result
    (means types c.node.result.now (node.Enum c.in-Enum.field-0) (type_in types c.args.of)
    c.node.ensures.meant c.in-Enum.is)
    (value_alike c.args.version (Enum (values_of c.in-Enum.field-0.items)) 4 x y c.skip_numbers.result refl c.skip_numbers.ensures)

pub skip-returns-in-Text : goal.skip-returns-in-Text
skip-returns-in-Text t c =
    let types : List Xtype = types_of c.args.types.now in
    value_known c.args.version (Text c.in-Text.bound) (type_in types c.args.of) c.args.reader.now
    c.skip_text.new.reader c.skip_text.result
    (means types c.node.result.now (node.Text c.in-Text.bound) (type_in types c.args.of)
    c.node.ensures.meant c.in-Text.is)
    c.skip_text.ensures

pub skip-returns-in-Struct : goal.skip-returns-in-Struct
skip-returns-in-Struct t c =
    let types : List Xtype = types_of c.args.types.now in
    value_known c.args.version (Struct (fields_in types c.in-Struct.members.items))
    (type_in types c.args.of) c.args.reader.now c.skip_members.new.reader c.skip_members.result
    (means types c.node.result.now (node.Struct c.in-Struct.members) (type_in types c.args.of)
    c.node.ensures.meant c.in-Struct.is)
    (rw (c.as_slice.ensures.value) at (c.skip_members.ensures))

-- ---- arrays

pub skip_array-returns-then-not-has_header : goal.skip_array-returns-then-not-has_header
skip_array-returns-then-not-has_header t c =
    let types : List Xtype = types_of c.args.types.now in
    let of : Xtype = type_in types c.args.item in
    array_passes c.args.version of c.args.dimensions.now.sizes.items c.count.result false c.args.reader.now c.skip_items.new.reader
    c.skip_items.result
    c.count.ensures.product
    (sym c.if-not-has_header.true ∙ c.has_header.ensures types
    ∙ ap (λ (u : Xtype). has_header c.args.version u) c.node.ensures.meant)
    c.skip_items.ensures

pub skip_array-returns-in-Err : goal.skip_array-returns-in-Err
skip_array-returns-in-Err t c =
    let types : List Xtype = types_of c.args.types.now in
    let sizes : List ℕ = c.args.dimensions.now.sizes.items in
    let of : Xtype = type_in types c.args.item in
    array_passes c.args.version of sizes (product sizes) true c.args.reader.now c.read_u32.new.self _
    refl
    (sym c.if-not-has_header.false ∙ c.has_header.ensures types
    ∙ ap (λ (u : Xtype). has_header c.args.version u) c.node.ensures.meant)
    (headed_short (AreItems c.args.version of (product sizes) c.args.reader.now.endian)
    c.args.reader.now c.read_u32.new.self c.in-Err.fault c.in-Err.ensures.reads)

pub skip_array-returns-in-Ok-skip_items : goal.skip_array-returns-in-Ok-skip_items
skip_array-returns-in-Ok-skip_items t c =
    let types : List Xtype = types_of c.args.types.now in
    let of : Xtype = type_in types c.args.item in
    array_passes c.args.version of c.args.dimensions.now.sizes.items c.count-2.result true c.args.reader.now c.skip_items-2.new.reader
    c.ends_at.result
    c.count-2.ensures.product
    (sym c.if-not-has_header.false ∙ c.has_header.ensures types
    ∙ ap (λ (u : Xtype). has_header c.args.version u) c.node.ensures.meant)
    (headed_ends (λ (e : Endian). AreItems c.args.version of c.count-2.result e) c.args.reader.now
    c.read_u32.new.self c.skip_items-2.new.reader c.in-Ok.octets c.position-start.result tt
    c.ends_at.result c.in-Ok.ensures.reads c.in-Ok-skip_items.ensures c.position-start.ensures
    c.ends_at.ensures.ok c.ends_at.ensures.err c.ends_at.ensures.known)

pub skip_array-returns-in-Err-skip_items : goal.skip_array-returns-in-Err-skip_items
skip_array-returns-in-Err-skip_items t c =
    let types : List Xtype = types_of c.args.types.now in
    let of : Xtype = type_in types c.args.item in
    array_passes c.args.version of c.args.dimensions.now.sizes.items c.count-2.result true c.args.reader.now c.skip_items-2.new.reader _
    c.count-2.ensures.product
    (sym c.if-not-has_header.false ∙ c.has_header.ensures types
    ∙ ap (λ (u : Xtype). has_header c.args.version u) c.node.ensures.meant)
    (headed_faulty (λ (e : Endian). AreItems c.args.version of c.count-2.result e) c.args.reader.now
    c.read_u32.new.self c.skip_items-2.new.reader c.in-Ok.octets c.in-Err-skip_items.fault
    c.in-Ok.ensures.reads c.in-Err-skip_items.ensures)

-- ---- sequences

pub skip_counted-returns-then-is_within : goal.skip_counted-returns-then-is_within
skip_counted-returns-then-is_within t c =
    counted_passes c.args.version (type_in (types_of c.args.types.now) c.args.item) c.args.bound
    c.in-Ok.count c.args.reader.now c.read_u32.new.self c.skip_items.new.reader
    c.skip_items.result c.in-Ok.ensures.reads (c.if-is_within.ensures.0 refl)
    c.skip_items.ensures

pub skip_counted-returns-else-is_within : goal.skip_counted-returns-else-is_within
skip_counted-returns-else-is_within t c =
    counted_too_long c.args.version (type_in (types_of c.args.types.now) c.args.item) c.args.bound
    c.in-Ok.count c.args.reader.now c.read_u32.new.self c.in-Ok.ensures.reads
    (λ w. cc (c.if-is_within.ensures.1 w))

pub skip_counted-returns-in-Err : goal.skip_counted-returns-in-Err
skip_counted-returns-in-Err t c =
    counted_short c.args.version (type_in (types_of c.args.types.now) c.args.item) c.args.bound
    c.args.reader.now c.read_u32.new.self c.in-Err.fault c.in-Err.ensures.reads

pub skip_sequence-returns-then-not-has_header : goal.skip_sequence-returns-then-not-has_header
skip_sequence-returns-then-not-has_header t c =
    let types : List Xtype = types_of c.args.types.now in
    let of : Xtype = type_in types c.args.item in
    sequence_passes c.args.version of c.args.bound false c.args.reader.now c.skip_counted.new.reader
    c.skip_counted.result
    (sym c.if-not-has_header.true ∙ c.has_header.ensures types
    ∙ ap (λ (u : Xtype). has_header c.args.version u) c.node.ensures.meant)
    c.skip_counted.ensures

pub skip_sequence-returns-in-Err : goal.skip_sequence-returns-in-Err
skip_sequence-returns-in-Err t c =
    let types : List Xtype = types_of c.args.types.now in
    let of : Xtype = type_in types c.args.item in
    sequence_passes c.args.version of c.args.bound true c.args.reader.now c.read_u32.new.self _
    (sym c.if-not-has_header.false ∙ c.has_header.ensures types
    ∙ ap (λ (u : Xtype). has_header c.args.version u) c.node.ensures.meant)
    (headed_short (AreCountedItems c.args.version of c.args.bound c.args.reader.now.endian)
    c.args.reader.now c.read_u32.new.self c.in-Err.fault c.in-Err.ensures.reads)

pub skip_sequence-returns-in-Ok-skip_counted : goal.skip_sequence-returns-in-Ok-skip_counted
skip_sequence-returns-in-Ok-skip_counted t c =
    let types : List Xtype = types_of c.args.types.now in
    let of : Xtype = type_in types c.args.item in
    sequence_passes c.args.version of c.args.bound true c.args.reader.now
    c.skip_counted-2.new.reader c.ends_at.result
    (sym c.if-not-has_header.false ∙ c.has_header.ensures types
    ∙ ap (λ (u : Xtype). has_header c.args.version u) c.node.ensures.meant)
    (headed_ends (λ (e : Endian). AreCountedItems c.args.version of c.args.bound e)
    c.args.reader.now c.read_u32.new.self c.skip_counted-2.new.reader c.in-Ok.count
    c.position-start.result tt c.ends_at.result c.in-Ok.ensures.reads
    c.in-Ok-skip_counted.ensures c.position-start.ensures c.ends_at.ensures.ok
    c.ends_at.ensures.err c.ends_at.ensures.known)

pub skip_sequence-returns-in-Err-skip_counted : goal.skip_sequence-returns-in-Err-skip_counted
skip_sequence-returns-in-Err-skip_counted t c =
    let types : List Xtype = types_of c.args.types.now in
    let of : Xtype = type_in types c.args.item in
    sequence_passes c.args.version of c.args.bound true c.args.reader.now
    c.skip_counted-2.new.reader _
    (sym c.if-not-has_header.false ∙ c.has_header.ensures types
    ∙ ap (λ (u : Xtype). has_header c.args.version u) c.node.ensures.meant)
    (headed_faulty (λ (e : Endian). AreCountedItems c.args.version of c.args.bound e)
    c.args.reader.now c.read_u32.new.self c.skip_counted-2.new.reader c.in-Ok.count
    c.in-Err-skip_counted.fault c.in-Ok.ensures.reads c.in-Err-skip_counted.ensures)

-- ---- items

pub skip_items-returns-in-Some : goal.skip_items-returns-in-Some
skip_items-returns-in-Some t c =
    let types : List Xtype = types_of c.args.types.now in
    let of : Xtype = type_in types c.args.item in
    items_alike c.args.version of c.in-Some.size c.args.count c.args.reader.now
    c.skip_numbers.new.reader c.skip_numbers.result
    (sym (c.in-Some.ensures.size types ∙ ap (λ (u : Xtype). number_size u) c.node.ensures.meant))
    c.skip_numbers.ensures

pub skip_items-returns-in-Err : goal.skip_items-returns-in-Err
skip_items-returns-in-Err t c =
    item_fails c.args.version (type_in (types_of c.args.types.now) c.args.item) c.args.count
    c.items._i c.items.reader c.skip.new.reader c.args.reader.now c.in-Err.fault
    c.items-test.true c.in-Err.ensures c.items.invariant

pub skip_items-items-preserved : goal.skip_items-items-preserved
skip_items-items-preserved t c =
    item_passed c.args.version (type_in (types_of c.args.types.now) c.args.item) c.args.count
    c.items._i c.items.reader c.skip.new.reader c.args.reader.now tt c.items-test.true
    c.in-Ok.ensures c.items.invariant

pub skip_items-returns : goal.skip_items-returns
skip_items-returns t c =
    items_done c.args.version (type_in (types_of c.args.types.now) c.args.item) c.args.count
    c.items._i c.items.reader c.args.reader.now c.items-test.false c.items.invariant

-- ---- members

pub skip_members-returns-in-Err : goal.skip_members-returns-in-Err
skip_members-returns-in-Err t c =
    member_fails c.args.version (types_of c.args.types.now) c.args.members.now
    c.members.member-index c.member-item.result c.members.reader c.skip.new.reader
    c.args.reader.now c.in-Err.fault c.members-test.true c.member-item.is c.in-Err.ensures
    c.members.invariant

pub skip_members-members-preserved : goal.skip_members-members-preserved
skip_members-members-preserved t c =
    member_passed c.args.version (types_of c.args.types.now) c.args.members.now
    c.members.member-index c.member-item.result c.members.reader c.skip.new.reader
    c.args.reader.now tt c.members-test.true c.member-item.is c.in-Ok.ensures
    c.members.invariant

pub skip_members-returns : goal.skip_members-returns
skip_members-returns t c =
    members_done c.args.version (types_of c.args.types.now) c.args.members.now
    c.members.member-index c.members.reader c.args.reader.now c.members-test.false
    c.members.invariant
