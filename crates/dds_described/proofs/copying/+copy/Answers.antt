use Rattle.std.proofs.Common.{◌∙◌, refl, sym, ap, List, length, ℕ}
use Rattle.dds_xcdr.specs.declared.node.Node.TheVariants as node
use Rattle.dds_xcdr.specs.Product.{product}
use Rattle.dds_xcdr.specs.Types.{type_in, types_of}
use Rattle.dds_xcdr.specs.Xcdr.{has_header}
use Rattle.dds_xcdr.specs.Xtype.{Xtype, Array, Sequence, ValueOf}
use Rattle.dds_xcdr.proofs.Described.{means}
use Rattle.dds_described.specs.Reading.{counted_found, is_within, items_found, tested, value_found}
use Rattle.dds_described.specs.Writing.{written}
use Rattle.dds_described.specs.Copying.{Copy}
use Rattle.dds_described.proofs.Copies.{count_copied, count_too_long, header_kept, item_copied, item_fails, items_done, member_copied, member_fails, members_done, sequence_is}
use Rattle.dds_described.proofs.copying.+copy.Goals as goal

-- ---- by the description

pub copy-returns-in-Plain : goal.copy-returns-in-Plain
copy-returns-in-Plain t c =
    let types : List Xtype = types_of c.args.types.now in
    rw (sym (means types c.node.result.now (node.Plain c.in-Plain.primitive)
    (type_in types c.args.of) c.node.ensures.meant c.in-Plain.is)) c.copy_plain.ensures

pub copy-returns-in-Text : goal.copy-returns-in-Text
copy-returns-in-Text t c =
    let types : List Xtype = types_of c.args.types.now in
    rw (sym (means types c.node.result.now (node.Text c.in-Text.bound) (type_in types c.args.of)
    c.node.ensures.meant c.in-Text.is)) (c.copy_text.ensures c.args.version)

pub copy-returns-in-Sequence : goal.copy-returns-in-Sequence
copy-returns-in-Sequence t c =
    let types : List Xtype = types_of c.args.types.now in
    rw (sym (means types c.node.result.now (node.Sequence c.in-Sequence.item c.in-Sequence.bound)
    (type_in types c.args.of) c.node.ensures.meant c.in-Sequence.is)) c.copy_sequence.ensures

pub copy-returns-in-Array : goal.copy-returns-in-Array
copy-returns-in-Array t c =
    let types : List Xtype = types_of c.args.types.now in
    rw (sym (means types c.node.result.now (node.Array c.in-Array.item c.in-Array.dimensions)
    (type_in types c.args.of) c.node.ensures.meant c.in-Array.is))
    c.copy_array.ensures

pub copy-returns-in-Struct : goal.copy-returns-in-Struct
copy-returns-in-Struct t c =
    let types : List Xtype = types_of c.args.types.now in
    rw (sym (means types c.node.result.now (node.Struct c.in-Struct.members)
    (type_in types c.args.of) c.node.ensures.meant c.in-Struct.is))
    (rw (c.as_slice.ensures.value) at (c.copy_members.ensures))

-- ---- collections

pub copy_array-returns-then-is_behind : goal.copy_array-returns-then-is_behind
copy_array-returns-then-is_behind t c =
    let types : List Xtype = types_of c.args.types.now in
    let sizes : List ℕ = c.args.dimensions.now.sizes.items in
    let of : Xtype = type_in types c.args.item in
    header_kept (List (ValueOf of))
    (λ d. items_found (λ e. value_found c.args.version of e) (product sizes) d)
    (λ at e xs. written (Array of sizes) at e xs) (has_header c.args.version of)
    c.args.copier.now c.read_count.new.self c.copy_items-2.new.copier c.in-Ok.octets
    c.position-start.result
    (sym (sym c.if-not-has_header.false ∙ c.has_header.ensures types
    ∙ ap (λ (u : Xtype). has_header c.args.version u) c.node.ensures.meant))
    c.in-Ok.ensures.value c.in-Ok.ensures.moves
    (rw (c.count-2.ensures.product) at (c.in-Ok-copy_items.ensures)) c.position-start.ensures
    (sym c.position.ensures ∙ c.if-is_behind.ensures.0 refl)

pub copy_sequence-returns-then-is_behind : goal.copy_sequence-returns-then-is_behind
copy_sequence-returns-then-is_behind t c =
    let types : List Xtype = types_of c.args.types.now in
    let of : Xtype = type_in types c.args.item in
    sequence_is c.args.version of c.args.bound c.args.copier.now
    ∙ header_kept (List (ValueOf of))
    (λ d. tested (λ xs end. is_within c.args.bound (length xs))
    (counted_found (λ e. value_found c.args.version of e) d))
    (λ at e xs. written (Sequence of c.args.bound) at e xs) (has_header c.args.version of)
    c.args.copier.now c.read_count.new.self c.copy_counted-2.new.copier c.in-Ok.octets
    c.position-start.result
    (sym (sym c.if-not-has_header.false ∙ c.has_header.ensures types
    ∙ ap (λ (u : Xtype). has_header c.args.version u) c.node.ensures.meant))
    c.in-Ok.ensures.value c.in-Ok.ensures.moves c.in-Ok-copy_counted.ensures
    c.position-start.ensures
    (sym c.position.ensures ∙ c.if-is_behind.ensures.0 refl)

pub copy_counted-returns-then-is_within : goal.copy_counted-returns-then-is_within
copy_counted-returns-then-is_within t c =
    rw (count_copied c.args.version (type_in (types_of c.args.types.now) c.args.item) c.args.bound
    c.in-Ok.count c.args.copier.now.reader c.copy_count.new.self.reader c.args.copier.now.writer
    c.copy_count.new.self.writer c.in-Ok.ensures.value
    (ap (λ (k : Copy). k.reader) c.in-Ok.ensures.moves)
    (sym c.is_within.ensures ∙ c.if-is_within.true)
    (ap (λ (k : Copy). k.writer) c.in-Ok.ensures.moves)) c.copy_items.ensures

pub copy_counted-returns-else-is_within : goal.copy_counted-returns-else-is_within
copy_counted-returns-else-is_within t c =
    count_too_long c.args.version (type_in (types_of c.args.types.now) c.args.item) c.args.bound
    c.in-Ok.count c.args.copier.now.reader c.copy_count.new.self.reader c.args.copier.now.writer
    c.in-Ok.ensures.value (ap (λ (k : Copy). k.reader) c.in-Ok.ensures.moves)
    (sym c.is_within.ensures ∙ c.if-is_within.false)

-- ---- items

pub copy_items-returns-in-Err : goal.copy_items-returns-in-Err
copy_items-returns-in-Err t c =
    item_fails c.args.version (type_in (types_of c.args.types.now) c.args.item) c.args.count
    c.items._i c.items.copier c.args.copier.now c.in-Err.error c.items-test.true c.in-Err.ensures
    c.items.invariant

pub copy_items-items-preserved : goal.copy_items-items-preserved
copy_items-items-preserved t c =
    item_copied c.args.version (type_in (types_of c.args.types.now) c.args.item) c.args.count
    c.items._i c.items.copier c.copy.new.copier c.args.copier.now c.items-test.true c.in-Ok.ensures
    c.items.invariant

pub copy_items-returns : goal.copy_items-returns
copy_items-returns t c =
    items_done c.args.version (type_in (types_of c.args.types.now) c.args.item) c.args.count
    c.items._i c.items.copier c.args.copier.now c.items-test.false c.items.invariant

-- ---- members

pub copy_members-returns-in-Err : goal.copy_members-returns-in-Err
copy_members-returns-in-Err t c =
    member_fails c.args.version (types_of c.args.types.now) c.args.members.now
    c.members.member-index c.member-item.result c.members.copier c.args.copier.now c.in-Err.error
    c.members-test.true c.member-item.is c.in-Err.ensures c.members.invariant

pub copy_members-members-preserved : goal.copy_members-members-preserved
copy_members-members-preserved t c =
    member_copied c.args.version (types_of c.args.types.now) c.args.members.now
    c.members.member-index c.member-item.result c.members.copier c.copy.new.copier
    c.args.copier.now c.members-test.true c.member-item.is c.in-Ok.ensures c.members.invariant

pub copy_members-returns : goal.copy_members-returns
copy_members-returns t c =
    members_done c.args.version (types_of c.args.types.now) c.args.members.now
    c.members.member-index c.members.copier c.args.copier.now c.members-test.false
    c.members.invariant
