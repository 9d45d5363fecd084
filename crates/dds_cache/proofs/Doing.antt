-- What a notice does.
use Rattle.std.proofs.Common.{◌≡◌, Bool, true, false, List, [], ◌∷◌, refl, sym, ap, ◌∙◌}
use Rattle.std.specs.Prelude.{not, ◌&&◌}
use Rattle.rtps_types.specs.declared.identity.Guid.{Guid}
use Rattle.rtps_types.specs.declared.identity.KeyHash.{KeyHash}
use Rattle.rtps_types.specs.declared.place.Place.{Place}
use Rattle.rtps_proxy.specs.Matches.{same_guid}
use Rattle.rtps_reader.specs.declared.body.Body.TheVariants as body
use Rattle.rtps_reader.specs.declared.notice.Notice.{Notice}
use Rattle.rtps_reader.specs.declared.notice.NoticeKind.{NoticeKind}
use Rattle.rtps_reader.specs.declared.notice.NoticeKind.TheVariants as kind
use Rattle.dds_cache.specs.declared.accept.Coming.TheVariants as coming
use Rattle.dds_cache.specs.declared.entry.Content.TheVariants as content
use Rattle.dds_cache.specs.declared.entry.Entry.{Entry}
use Rattle.dds_cache.specs.Cache.{entry_by}
use Rattle.dds_cache.specs.Coming.{does, is_value_of}
use Rattle.dds_cache.specs.Departing.{Ends, is_by}
use Rattle.dds_cache.specs.Instances.{Nothing, disposed_by, is_end, is_value, live_by, told_about}
use Rattle.dds_cache.specs.Standing.{is_pair}
use Rattle.dds_cache.proofs.Going.{unregistered}

-- its writer is not live in any instance any more
pub unmatched : {M : Type 0} (n : Notice M) → n.what ≡ kind.Unmatched → Ends n (is_by n.writer)
unmatched n is = record {
  none = ap (entry_by n.place n.writer) is;
  value = λ q. ap (λ t. is_value (told_about q t)) is;
  disposed = λ q b. ap (λ t. disposed_by (told_about q t) b) is;
  live = λ q w b. ap (λ t. live_by (told_about q t) (same_guid n.writer w) (is_end t) b) is ∙ ending (same_guid n.writer w) b;
}
  where
    ending : (by_it before : Bool) → (not (by_it && true) && before) ≡ (not by_it && before)
    ending true before = refl
    ending false before = refl

module _ {M : Type 0} (n : Notice M) where
  -- nothing changes
  quiet : (t : NoticeKind M) → n.what ≡ t → entry_by n.place n.writer t ≡ [] → ((q : KeyHash) → told_about q t ≡ Nothing) → is_end t ≡ false → Ends n (λ p. false)
  quiet t is none about going = record {
    none = ap (entry_by n.place n.writer) is ∙ none;
    value = λ q. ap (λ x. is_value (told_about q x)) is ∙ ap is_value (about q);
    disposed = λ q b. ap (λ x. disposed_by (told_about q x) b) is ∙ ap (λ a. disposed_by a b) (about q);
    live = λ q w b. ap (λ x. live_by (told_about q x) (same_guid n.writer w) (is_end x) b) is ∙ ap (λ a. live_by a (same_guid n.writer w) (is_end t) b) (about q) ∙ ap (λ x. not (same_guid n.writer w && x) && b) going ∙ kept (same_guid n.writer w) b;
  }
    where
      kept : (by_it before : Bool) → (not (by_it && false) && before) ≡ before
      kept true before = refl
      kept false before = refl

  pub leaves_one : (k : KeyHash) (t : NoticeKind M) → n.what ≡ t → does t ≡ coming.Leaves k → Ends n (is_pair (n.writer, k))
  leaves_one k (kind.Sample number time (body.Value h v)) is so = absurd cc
  leaves_one k (kind.Sample number time (body.Disposed h)) is so = absurd cc
  leaves_one k (kind.Sample number time (body.Unregistered h)) is so = let same : h ≡ k = cc in unregistered n number time k (is ∙ ap (λ x. kind.Sample number time (body.Unregistered x)) same)
  leaves_one k (kind.Sample number time (body.Unread u)) is so = absurd cc
  leaves_one k kind.Matched is so = absurd cc
  leaves_one k kind.Unmatched is so = absurd cc
  leaves_one k (kind.Incompatible policy) is so = absurd cc
  leaves_one k (kind.Lost count) is so = absurd cc

  pub leaves_all : (t : NoticeKind M) → n.what ≡ t → does t ≡ coming.LeavesAll → Ends n (is_by n.writer)
  leaves_all (kind.Sample number time (body.Value h v)) is so = absurd cc
  leaves_all (kind.Sample number time (body.Disposed h)) is so = absurd cc
  leaves_all (kind.Sample number time (body.Unregistered h)) is so = absurd cc
  leaves_all (kind.Sample number time (body.Unread u)) is so = absurd cc
  leaves_all kind.Matched is so = absurd cc
  leaves_all kind.Unmatched is so = unmatched n is
  leaves_all (kind.Incompatible policy) is so = absurd cc
  leaves_all (kind.Lost count) is so = absurd cc

  pub changes_nothing : (t : NoticeKind M) → n.what ≡ t → does t ≡ coming.ChangesNothing → Ends n (λ p. false)
  changes_nothing (kind.Sample number time (body.Value h v)) is so = absurd cc
  changes_nothing (kind.Sample number time (body.Disposed h)) is so = absurd cc
  changes_nothing (kind.Sample number time (body.Unregistered h)) is so = absurd cc
  changes_nothing (kind.Sample number time (body.Unread u)) is so = quiet (kind.Sample number time (body.Unread u)) is refl (λ q. refl) refl
  changes_nothing kind.Matched is so = quiet kind.Matched is refl (λ q. refl) refl
  changes_nothing kind.Unmatched is so = absurd cc
  changes_nothing (kind.Incompatible policy) is so = quiet (kind.Incompatible policy) is refl (λ q. refl) refl
  changes_nothing (kind.Lost count) is so = quiet (kind.Lost count) is refl (λ q. refl) refl

-- the entry that a notice makes has the key and the kind that it says
pub record Makes {M : Type 0} (place : Place) (w : Guid) (t : NoticeKind M) (k : KeyHash) (v : Bool) : Type 0 where
  pub entry : Entry M
  pub one : entry_by place w t ≡ entry ∷ []
  pub writer : w ≡ entry.writer
  pub key : k ≡ entry.key
  pub value : v ≡ is_value_of entry.body

pub makes_as : {M : Type 0} (place : Place) (w : Guid) (t : NoticeKind M) (k : KeyHash) (v : Bool) → does t ≡ coming.Enters k v → Makes place w t k v
makes_as place w (kind.Sample number time (body.Value h x)) k v so = record {
  entry = record { place = place; writer = w; number = number; time = time; key = h; body = content.Value x; is_read = false };
  one = refl;
  writer = refl;
  key = let same : h ≡ k = cc in sym same;
  value = let same : true ≡ v = cc in sym same;
}
makes_as place w (kind.Sample number time (body.Disposed h)) k v so = record {
  entry = record { place = place; writer = w; number = number; time = time; key = h; body = content.Disposed; is_read = false };
  one = refl;
  writer = refl;
  key = let same : h ≡ k = cc in sym same;
  value = let same : false ≡ v = cc in sym same;
}
makes_as place w (kind.Sample number time (body.Unregistered h)) k v so = absurd cc
makes_as place w (kind.Sample number time (body.Unread u)) k v so = absurd cc
makes_as place w kind.Matched k v so = absurd cc
makes_as place w kind.Unmatched k v so = absurd cc
makes_as place w (kind.Incompatible policy) k v so = absurd cc
makes_as place w (kind.Lost count) k v so = absurd cc

-- what was made is that entry
pub made_is : {E : Type 0} (e x : E) (l : List E) → x ∷ [] ≡ l → l ≡ e ∷ [] → x ≡ e
made_is e x l made is = let both : x ∷ [] ≡ e ∷ [] = made ∙ is in cc

pub not_made : {E : Type 0} (e : E) (l : List E) → [] ≡ l → l ≡ e ∷ [] → ⊥
not_made e l made is = let both : [] ≡ e ∷ [] = made ∙ is in cc
