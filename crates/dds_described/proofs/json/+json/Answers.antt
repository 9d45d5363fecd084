use Rattle.std.proofs.Common.{◌≡◌, ◌∙◌, sym, ap, List, ℕ, ◌++◌, []}
use Rattle.std.proofs.lemmas.List.{nil_from_length}
use Rattle.rtps_ascii.proofs.Kept.{still_starts}
use Rattle.dds_xcdr.specs.declared.node.Node.TheVariants as node
use Rattle.dds_xcdr.specs.Product.{product}
use Rattle.dds_xcdr.specs.Types.{fields_in, type_in, types_of}
use Rattle.dds_xcdr.specs.Xtype.{Xtype, Fields, ValueOf, ValuesOf}
use Rattle.dds_xcdr.proofs.Described.{means}
use Rattle.dds_described.specs.Json.{array_text, json_of, members_text}
use Rattle.dds_described.specs.JsonText.{string_text}
use Rattle.dds_described.specs.Reading.{items_found, value_found, values_found}
use Rattle.dds_described.proofs.JsonSteps.{array_prints, items_begin, items_end, items_more, members_begin, members_end, members_more, on_ok, rows_print, same_starts, sequence_prints, single_prints, surrounded}
use Rattle.dds_described.proofs.json.+json.Goals as goal

-- ---- by the description

pub push_value-returns-in-Plain-clause-ok : goal.push_value-returns-in-Plain-clause-ok
push_value-returns-in-Plain-clause-ok g t c =
    let types : List Xtype = types_of c.args.encoding.types.now in
    rw (sym (means types c.node.result.now (node.Plain c.in-Plain.primitive)
    (type_in types c.args.of) c.node.ensures.meant c.in-Plain.is)) c.push_plain.ensures.ok

pub push_value-returns-in-Enum-clause-ok : goal.push_value-returns-in-Enum-clause-ok
push_value-returns-in-Enum-clause-ok g t c =
    let types : List Xtype = types_of c.args.encoding.types.now in
    rw (sym (means types c.node.result.now (node.Enum c.in-Enum.cases)
    (type_in types c.args.of) c.node.ensures.meant c.in-Enum.is))
    (rw (c.as_slice.ensures.value) at (c.push_case.ensures.ok))

pub push_value-returns-in-Text-clause-ok : goal.push_value-returns-in-Text-clause-ok
push_value-returns-in-Text-clause-ok g t c =
    let types : List Xtype = types_of c.args.encoding.types.now in
    rw (sym (means types c.node.result.now (node.Text c.in-Text.field-0)
    (type_in types c.args.of) c.node.ensures.meant c.in-Text.is))
    (c.push_text.ensures.ok c.args.encoding.version c.in-Text.field-0)

pub push_value-returns-in-Sequence-clause-ok : goal.push_value-returns-in-Sequence-clause-ok
push_value-returns-in-Sequence-clause-ok g t c =
    let types : List Xtype = types_of c.args.encoding.types.now in
    rw (sym (means types c.node.result.now (node.Sequence c.in-Sequence.item c.in-Sequence.field-1)
    (type_in types c.args.of) c.node.ensures.meant c.in-Sequence.is))
    (c.push_sequence.ensures.ok c.in-Sequence.field-1)

pub push_value-returns-in-Array-clause-ok : goal.push_value-returns-in-Array-clause-ok
push_value-returns-in-Array-clause-ok g t c =
    let types : List Xtype = types_of c.args.encoding.types.now in
    rw (sym (means types c.node.result.now (node.Array c.in-Array.item c.in-Array.dimensions)
    (type_in types c.args.of) c.node.ensures.meant c.in-Array.is))
    (rw (c.sizes.ensures) at (c.push_array.ensures.ok))

pub push_value-returns-in-Struct-clause-ok : goal.push_value-returns-in-Struct-clause-ok
push_value-returns-in-Struct-clause-ok g t c =
    let types : List Xtype = types_of c.args.encoding.types.now in
    rw (sym (means types c.node.result.now (node.Struct c.in-Struct.members)
    (type_in types c.args.of) c.node.ensures.meant c.in-Struct.is))
    (rw (c.as_slice-in-Struct.ensures.value) at (c.push_struct.ensures.ok))

-- ---- sequences

pub push_sequence-returns-clause-ok : goal.push_sequence-returns-clause-ok
push_sequence-returns-clause-ok g t c bound =
    let of : Xtype = type_in (types_of c.args.encoding.types.now) c.args.item in
    on_ok c.push_octet-2.result
    (λ put. sequence_prints c.args.encoding.version of bound c.in-Ok.count c.args.out.now.items
    c.push_octet.new.out.items c.push_items.new.out.items c.push_octet-2.new.out.items
    c.args.source.now c.pass_header.new.source c.read_count.new.self c.push_items.new.source
    c.in_ok-pass_header.ensures c.in-Ok.ensures.value c.in-Ok.ensures.moves
    c.in_ok-push_octet.ensures.ok put c.in_ok-push_items.ensures.ok) c.push_octet-2.ensures.ok

pub push_items-items-init : goal.push_items-items-init
push_items-items-init g t c =
    let of : Xtype = type_in (types_of c.args.encoding.types.now) c.args.item in record {
      left = items_begin (ValueOf of) (λ d. value_found c.args.encoding.version of d)
          (λ x. json_of of x) c.args.count c.args.source.now c.args.out.now.items;
      keeps = same_starts c.args.out.now.items;
    }

pub push_items-items-preserved : goal.push_items-items-preserved
push_items-items-preserved g t c =
    let of : Xtype = type_in (types_of c.args.encoding.types.now) c.args.item in record {
      left = items_more (ValueOf of) (λ d. value_found c.args.encoding.version of d)
          (λ x. json_of of x) c.args.count c.items.i c.args.source.now c.items.source
          c.push_value.new.source c.args.out.now.items c.items.out.items
          c.push_comma.new.out.items c.push_value.new.out.items c.items-test.true
          c.in_ok-push_comma.ensures.ok c.in_ok-push_value.ensures.ok c.items.invariant.left;
      keeps = still_starts c.push_value.new.out.items c.push_comma.new.out.items
          c.args.out.now.items c.in_ok-push_value.ensures.keeps
          (still_starts c.push_comma.new.out.items c.items.out.items c.args.out.now.items
          c.in_ok-push_comma.ensures.keeps c.items.invariant.keeps);
    }

pub push_items-returns-clause-ok : goal.push_items-returns-clause-ok
push_items-returns-clause-ok g t c =
    let of : Xtype = type_in (types_of c.args.encoding.types.now) c.args.item in
    items_end (ValueOf of) (λ d. value_found c.args.encoding.version of d) (λ x. json_of of x)
    c.args.count c.items.i c.args.source.now c.items.source c.args.out.now.items
    c.items.out.items c.items-test.false c.items.invariant.left

-- ---- arrays

pub push_array-returns-clause-ok : goal.push_array-returns-clause-ok
push_array-returns-clause-ok g t c =
    let of : Xtype = type_in (types_of c.args.encoding.types.now) c.args.item in
    on_ok c.push_rows.result
    (λ p. array_prints c.args.encoding.version of c.args.sizes.now c.args.out.now.items
    c.push_rows.new.out.items c.args.source.now c.pass_header.new.source c.push_rows.new.source
    c.in_ok-pass_header.ensures p) c.push_rows.ensures.ok

pub push_rows-returns-in-None-clause-ok : goal.push_rows-returns-in-None-clause-ok
push_rows-returns-in-None-clause-ok g t c =
    let of : Xtype = type_in (types_of c.args.encoding.types.now) c.args.item in
    let none : c.args.sizes.now ≡ [] = nil_from_length c.args.sizes.now c.in-None.ensures.cases in
    rw none (on_ok c.push_value.result
    (λ p. single_prints (ValueOf of) (λ d. value_found c.args.encoding.version of d)
    (λ x. json_of of x) c.args.out.now.items c.push_value.new.out.items c.args.source.now
    c.push_value.new.source p) c.push_value.ensures.ok)

pub push_rows-rows-init : goal.push_rows-rows-init
push_rows-rows-init g t c =
    let of : Xtype = type_in (types_of c.args.encoding.types.now) c.args.item in record {
      left = items_begin (List (ValueOf of))
          (λ e. items_found (λ d. value_found c.args.encoding.version of d) (product c.in-Some.rest.now) e)
          (λ row. array_text (λ x. json_of of x) c.in-Some.rest.now row) c.in-Some.size.now
          c.args.source.now c.push_octet.new.out.items;
      keeps = same_starts c.push_octet.new.out.items;
    }

pub push_rows-rows-preserved : goal.push_rows-rows-preserved
push_rows-rows-preserved g t c =
    let of : Xtype = type_in (types_of c.args.encoding.types.now) c.args.item in record {
      left = items_more (List (ValueOf of))
          (λ e. items_found (λ d. value_found c.args.encoding.version of d) (product c.in-Some.rest.now) e)
          (λ row. array_text (λ x. json_of of x) c.in-Some.rest.now row) c.in-Some.size.now
          c.rows.i c.args.source.now c.rows.source c.push_rows.new.source
          c.push_octet.new.out.items c.rows.out.items c.push_comma.new.out.items
          c.push_rows.new.out.items c.rows-test.true c.in_ok-push_comma-in-Some.ensures.ok
          c.in_ok-push_rows-in-Some.ensures.ok c.rows.invariant.left;
      keeps = still_starts c.push_rows.new.out.items c.push_comma.new.out.items
          c.push_octet.new.out.items c.in_ok-push_rows-in-Some.ensures.keeps
          (still_starts c.push_comma.new.out.items c.rows.out.items c.push_octet.new.out.items
          c.in_ok-push_comma-in-Some.ensures.keeps c.rows.invariant.keeps);
    }

pub push_rows-returns-after-rows-clause-ok : goal.push_rows-returns-after-rows-clause-ok
push_rows-returns-after-rows-clause-ok g t c =
    let of : Xtype = type_in (types_of c.args.encoding.types.now) c.args.item in
    rw (c.in-Some.ensures.cases.0) (on_ok c.push_octet-in-Some.result
    (λ put. rows_print (ValueOf of) (λ d. value_found c.args.encoding.version of d)
    (λ x. json_of of x) c.in-Some.size.now c.rows.i c.in-Some.rest.now c.args.source.now
    c.rows.source c.args.out.now.items c.push_octet.new.out.items c.rows.out.items
    c.push_octet-in-Some.new.out.items c.rows-test.false c.in_ok-push_octet-in-Some.ensures.ok put
    c.rows.invariant.left) c.push_octet-in-Some.ensures.ok)

-- ---- structs

pub push_struct-members-init : goal.push_struct-members-init
push_struct-members-init g t c = record {
  left = members_begin c.args.encoding.version (types_of c.args.encoding.types.now)
      c.args.members.now c.args.source.now c.push_octet.new.out.items;
  keeps = same_starts c.push_octet.new.out.items;
}

pub push_struct-members-preserved : goal.push_struct-members-preserved
push_struct-members-preserved g t c = record {
  left = members_more c.args.encoding.version (types_of c.args.encoding.types.now)
      c.args.members.now c.members.i c.index-members-i.result c.args.source.now c.members.source
      c.push_value.new.source c.push_octet.new.out.items c.members.out.items
      c.push_comma.new.out.items c.push_string.new.out.items
      c.push_octet-in-members.new.out.items c.push_value.new.out.items c.members-test.true
      c.index-members-i.is c.in_ok-push_comma.ensures.ok
      (c.in_ok-push_string.ensures.ok
      ∙ ap (λ (ys : List ℕ). c.push_comma.new.out.items ++ string_text ys) c.as_str.ensures.value)
      c.in_ok-push_octet-2.ensures.ok c.in_ok-push_value.ensures.ok c.members.invariant.left;
  keeps = still_starts c.push_value.new.out.items c.push_octet-in-members.new.out.items
      c.push_octet.new.out.items c.in_ok-push_value.ensures.keeps
      (still_starts c.push_octet-in-members.new.out.items c.push_string.new.out.items
      c.push_octet.new.out.items c.in_ok-push_octet-2.ensures.keeps
      (still_starts c.push_string.new.out.items c.push_comma.new.out.items
      c.push_octet.new.out.items c.in_ok-push_string.ensures.keeps
      (still_starts c.push_comma.new.out.items c.members.out.items c.push_octet.new.out.items
      c.in_ok-push_comma.ensures.keeps c.members.invariant.keeps)));
}

pub push_struct-returns-clause-ok : goal.push_struct-returns-clause-ok
push_struct-returns-clause-ok g t c =
    let types : List Xtype = types_of c.args.encoding.types.now in
    let fields : Fields = fields_in types c.args.members.now in
    on_ok c.push_octet-2.result
    (λ put. surrounded (ValuesOf fields)
    (values_found c.args.encoding.version fields c.args.source.now)
    (λ xs. members_text 0 fields xs) 123 125 c.args.out.now.items c.push_octet.new.out.items
    c.members.out.items c.push_octet-2.new.out.items c.args.source.now c.members.source
    c.in_ok-push_octet.ensures.ok put
    (members_end c.args.encoding.version types c.args.members.now c.members.i
    c.args.source.now c.members.source c.push_octet.new.out.items c.members.out.items
    c.members-test.false c.members.invariant.left)) c.push_octet-2.ensures.ok
