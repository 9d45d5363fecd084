-- A moment at which no lease has ended changes nothing but the moment.
use Rattle.std.proofs.Common.{◌≡◌, ℕ, zero, suc, List, [], ◌++◌, refl, ap, ◌∙◌, append-nil}
use Rattle.rtps_types.specs.declared.identity.GuidPrefix.{GuidPrefix}
use Rattle.rtps_discovery.specs.Announcement.{Leave}
use Rattle.rtps_discovery.specs.Changes.{ChangeAt, changes}
use Rattle.rtps_discovery.specs.Known.{Known, expired, known_after, moved, passed}
use Rattle.rtps_discovery.proofs.Together.{filter_every}
use Rattle.rtps_discovery.proofs.Unheard.{unheard}
use Rattle.dds_topic.specs.Decoding.{Decoding}
use Rattle.rtps_reader.specs.Reader.{Reader, reader_run}
use Rattle.rtps_run.specs.Occurrence.{Occurrence, Passes}
use Rattle.rtps_run.specs.World.{ReportView, World, changes_for, count_after, doings, puts_below, world_after}

-- nobody leaves
nobody_leaves : (k : Known) → known_after k (Leave []) ≡ k
nobody_leaves k = rw (filter_every k.participants, filter_every k.announcers, filter_every k.writers, filter_every k.remote_readers) refl

pub only_moves : (moment : ℕ) (k : Known) → expired (moved moment k) ≡ [] → passed moment k ≡ moved moment k
only_moves moment k none = ap (λ (gone : List GuidPrefix). known_after (moved moment k) (Leave gone)) none ∙ nobody_leaves (moved moment k)

-- no match changes
pub nothing_changes : (moment : ℕ) (k : Known) → expired (moved moment k) ≡ [] → changes (moved moment k) (passed moment k) ≡ []
nothing_changes moment k none = ap (changes (moved moment k)) (only_moves moment k none) ∙ unheard (moved moment k) (moved moment k) refl refl

-- so no reader has anything to do, and nothing is put out
pub quiet_doings : (k : Known) (rank index moment : ℕ) → expired (moved moment k) ≡ [] → doings k rank (Passes index moment) ≡ []
quiet_doings k rank index moment none = ap (changes_for rank) (nothing_changes moment k none)

none_put : {M : Type 0} (decoding : Decoding M) (k : Known) (o : Occurrence) (readers : ℕ → Reader) (n : ℕ) → ((rank : ℕ) → doings k rank o ≡ []) → puts_below decoding k o readers n ≡ []
none_put decoding k o readers zero none = refl
none_put decoding k o readers (suc n) none = rw (none_put decoding k o readers n none, none n) refl

-- a world of which this is known, and whose readers had these changes
abbrev changed : {M : Type 0} → World M → Known → List ChangeAt → List (ReportView M) → World M
changed w k cs put = record { known = k; readers = λ rank. reader_run (w.readers rank) (changes_for rank cs); put = put }

-- the world but for the moment
abbrev pub at_moment : {M : Type 0} → ℕ → World M → World M
at_moment moment w = record { known = moved moment w.known; readers = w.readers; put = w.put }

pub quiet_world : {M : Type 0} (decoding : Decoding M) (w : World M) (index moment : ℕ) → expired (moved moment w.known) ≡ [] → world_after decoding w (Passes index moment) ≡ at_moment moment w
quiet_world {M} decoding w index moment none =
    ap (λ (k : Known). changed w k ended put) (only_moves moment w.known none)
    ∙ ap (λ (cs : List ChangeAt). changed w (moved moment w.known) cs put) (nothing_changes moment w.known none)
    ∙ ap (changed w (moved moment w.known) []) put_is
  where
    ended : List ChangeAt
    ended = changes (moved moment w.known) (passed moment w.known)

    put : List (ReportView M)
    put = w.put ++ puts_below decoding w.known (Passes index moment) w.readers (count_after w (Passes index moment))

    put_is : put ≡ w.put
    put_is =
        ap (λ l. w.put ++ l) (none_put decoding w.known (Passes index moment) w.readers (count_after w (Passes index moment)) (λ rank. quiet_doings w.known rank index moment none))
        ∙ append-nil w.put
