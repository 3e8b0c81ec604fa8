-- The tests are the rule's, in its order: the watch is used, its bit is set, the path has a length within the size and concerns it.
use mathlib.Core.Path.{◌≡◌, sym, ap, ◌∙◌}
use mathlib.Core.Bool.{true}
use mathlib.Core.Option.{none}
use lib.ListN.{get_or}
use Rattle.rules.specs.Octets.{Octets}
use Rattle.rules.specs.Layout.{watches_of}
use Rattle.rules.specs.Message.{record_at, mask_bit, concerns}
use Rattle.domains.specs.Entry.{taken}
use Rattle.watches.specs.Watch.{watch_of}
use Rattle.watches.proofs.Written.{sound-kept}
use Rattle.events.proofs.DueLaws.{due_free, due_unheard, due_empty, due-long, due-concerns}
use Rattle.events.proofs.message.due.Goals as goal
use Rattle.events.proofs.message.due.Goals.{Else-not-heard, Else-not-used}

pub used-requires : goal.used-requires
used-requires c =
    let sound = c.requires.2 in
    (c.requires.1, (sound-kept sound.domains c.args.watches.now sound.sound).whole)

pub returns-then-not-used : goal.returns-then-not-used
returns-then-not-used c = due_free _ _ _ _ (sym c.used.ensures ∙ c.if-not-used.true)

in_use : (c : Else-not-used) → taken (get_or (watches_of c.args.watches.now) c.args.k none) ≡ true
in_use c = sym c.used.ensures ∙ c.if-not-used.false

is-heard : (c : Else-not-heard) → mask_bit (record_at c.args.events.now c.args.i) c.args.k ≡ true
is-heard c = sym c.heard.ensures ∙ c.if-not-heard.false

pub returns-then-not-heard : goal.returns-then-not-heard
returns-then-not-heard c = due_unheard _ _ _ _ (in_use (goal.at.returns-then-not-heard c).Else-not-used) (sym c.heard.ensures ∙ c.if-not-heard.true)

pub returns-then-n-lt-SHORTEST_PATH : goal.returns-then-n-lt-SHORTEST_PATH
returns-then-n-lt-SHORTEST_PATH c =
    let places = goal.at.returns-then-n-lt-SHORTEST_PATH c in
    due_empty _ _ _ _ (in_use places.Else-not-used) (is-heard places.Else-not-heard) _ c.path_length-n.ensures c.if-n-lt-SHORTEST_PATH.true

pub returns-then-n-gt-LONGEST_PATH : goal.returns-then-n-gt-LONGEST_PATH
returns-then-n-gt-LONGEST_PATH c =
    let places = goal.at.returns-then-n-gt-LONGEST_PATH c in
    let length-is = c.path_length-n.ensures in
    due-long _ _ _ _ (in_use places.Else-not-used) (is-heard places.Else-not-heard) _ length-is c.if-n-lt-SHORTEST_PATH.false c.if-n-gt-LONGEST_PATH.true

pub returns : goal.returns
returns c =
    let places = goal.at.returns c in
    let args = c.args in
    let length-is = c.path_length-n.ensures in
    c.concerns.ensures
    ∙ ap (λ (p : Octets). concerns p (watch_of args.watches.now args.k).place) c.path.ensures
    ∙ due-concerns _ _ _ _ (in_use places.Else-not-used) (is-heard places.Else-not-heard) _ length-is c.if-n-lt-SHORTEST_PATH.false c.if-n-gt-LONGEST_PATH.false
