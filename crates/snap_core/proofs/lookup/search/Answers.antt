-- The closure compares a field's key with the key that is looked for.
use Rattle.std.proofs.Common.{rules}
use Rattle.std.proofs.lemmas.Fn.{always_returns_same}
use Rattle.snap_core.specs.declared.snap.Field.{Field}
use Rattle.snap_core.proofs.Finding.{key_cmp}
use Rattle.snap_core.proofs.Searching.{value_at-searched, key-searched, place-searched}
use Rattle.snap_core.proofs.lookup.search.Goals as goal

pub returns-clause-found : goal.returns-clause-found
returns-clause-found c =
    let facts = c.binary_search_by.ensures in
    let by_key = facts.position (λ (f : Field). key_cmp f.key c.args.key.now) (always_returns_same _ _ _ (λ a r g called. (search rules, search rules))) in
    value_at-searched c.args.key.now c.args.fields.now c.binary_search_by.result c.requires facts.bound by_key

pub returns-clause-key : goal.returns-clause-key
returns-clause-key c =
    let facts = c.binary_search_by.ensures in
    let by_key = facts.position (λ (f : Field). key_cmp f.key c.args.key.now) (always_returns_same _ _ _ (λ a r g called. (search rules, search rules))) in
    key-searched c.args.key.now c.args.fields.now c.binary_search_by.result by_key

pub returns-clause-place : goal.returns-clause-place
returns-clause-place c =
    let facts = c.binary_search_by.ensures in
    let by_key = facts.position (λ (f : Field). key_cmp f.key c.args.key.now) (always_returns_same _ _ _ (λ a r g called. (search rules, search rules))) in
    place-searched c.args.key.now c.args.fields.now c.binary_search_by.result c.requires facts.bound by_key
