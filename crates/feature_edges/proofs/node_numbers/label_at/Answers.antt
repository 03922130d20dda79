use Rattle.std.proofs.Common.{◌≡◌, ◌-◌, ◌<◌, ◌∙◌, sym, ap, refl, subst, length, arith}
use Rattle.std.specs.Prelude.{slice_index}
use Rattle.guppy_packages.specs.Metadata.{package_table_of}
use Rattle.feature_edges.specs.Nodes.{first_node, labels_of}
use Rattle.feature_edges.proofs.LabelLemmas.{first_within, first_is}
use Rattle.feature_edges.proofs.NodeLabels.{in_package, node_of_place}
use Rattle.feature_edges.proofs.Places.{got_same}
use Rattle.feature_edges.proofs.node_numbers.label_at.Goals as goal

pub first_of-requires : goal.first_of-requires
first_of-requires c =
    let t = c.args.graph.now in
    let p = slice_index c.args.packages.now c.args.ix in
    let within = in_package t c.args.packages.now c.args.ix p c.requires.packages c.requires.node refl in
    first_within t p within.table c.args.firsts.now c.requires.firsts within.is_package

pub overflow_sub-place : goal.overflow_sub-place
overflow_sub-place c =
    let t = c.args.graph.now in
    let p = slice_index c.args.packages.now c.args.ix in
    let within = in_package t c.args.packages.now c.args.ix p c.requires.packages c.requires.node refl in
    let first : c.first_of.result ≡ first_node t p = c.first_of.ensures ∙ first_is t p within.table c.args.firsts.now c.requires.firsts within.is_package in
    omega (arith, first, within.first)

pub package-requires : goal.package-requires
package-requires c =
    let within = in_package c.args.graph.now c.args.packages.now c.args.ix (slice_index c.args.packages.now c.args.ix) c.requires.packages c.requires.node refl in
    within.below

pub label-requires : goal.label-requires
label-requires c =
    let t = c.args.graph.now in
    let p = slice_index c.args.packages.now c.args.ix in
    let within = in_package t c.args.packages.now c.args.ix p c.requires.packages c.requires.node refl in
    let first : c.first_of.result ≡ first_node t p = c.first_of.ensures ∙ first_is t p within.table c.args.firsts.now c.requires.firsts within.is_package in
    let same : within.table ≡ package_table_of c.package.result = got_same within.table (package_table_of c.package.result) (sym within.is_package ∙ c.package.ensures.package) in
    let place : c.args.ix - first_node t p < length (labels_of (package_table_of c.package.result)) = subst (λ z. c.args.ix - first_node t p < length (labels_of z)) same within.place in
    subst (λ z. c.args.ix - z < length (labels_of (package_table_of c.package.result))) (sym first) place

pub returns : goal.returns
returns c =
    let t = c.args.graph.now in
    let p = slice_index c.args.packages.now c.args.ix in
    let within = in_package t c.args.packages.now c.args.ix p c.requires.packages c.requires.node refl in
    let first : c.first_of.result ≡ first_node t p = c.first_of.ensures ∙ first_is t p within.table c.args.firsts.now c.requires.firsts within.is_package in
    node_of_place t c.args.ix p (c.args.ix - c.first_of.result) (package_table_of c.package.result) _ c.package.ensures.package within.first (ap (λ z. c.args.ix - z) first) c.label.ensures
