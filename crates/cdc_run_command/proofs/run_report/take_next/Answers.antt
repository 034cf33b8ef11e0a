use Rattle.cdc_run_command.proofs.Words.{ap, arith, length, option_map, refl, slice_get-map, slice_get_read, slice_get_within, vec_len, ◌-◌, ◌<◌, ◌∙◌}
use Rattle.cdc_run_command.proofs.ReplyLemmas.{found_inside, stands_within}
use Rattle.cdc_run_command.proofs.run_report.take_next.Goals as goal

pub bounds-replies-place : goal.bounds-replies-place
bounds-replies-place c =
    found_inside (λ v. v.items) c.args.replies.now (c.args.client - 1) c.requires.share c.requires.share_is

pub offset_bounds-replies-place : goal.offset_bounds-replies-place
offset_bounds-replies-place c =
    let inside : c.args.client - 1 < length c.args.replies.now =
    found_inside (λ v. v.items) c.args.replies.now (c.args.client - 1) c.requires.share c.requires.share_is in
    omega arith

pub index-reply-requires : goal.index-reply-requires
index-reply-requires c =
    let own = c.index-replies-place.result in
    let there = stands_within (λ v. v.items) c.args.replies.now c.args.taken.now.items c.args.client own
    c.index-count.result.now c.requires c.index-replies-place.is c.index-count.ensures in
    omega (arith, own.ok.0, there.1)

pub overflow_add-count : goal.overflow_add-count
overflow_add-count c =
    let own = c.index-replies-place.result in
    let there = stands_within (λ v. v.items) c.args.replies.now c.args.taken.now.items c.args.client own
    c.index-count.result.now c.requires c.index-replies-place.is c.index-count.ensures in
    let below : c.index-count.result.now < vec_len own = omega (arith, own.ok.0, there.1) in
    omega arith

pub index_mut-requires : goal.index_mut-requires
index_mut-requires c =
    let taken = c.args.taken.now in
    omega (
      arith,
      taken.ok.0,
      slice_get_within taken.items (c.args.client - 1) c.requires.count c.requires.count_is,
    )

pub returns : goal.returns
returns c =
    let place = c.args.client - 1 in
    let own = c.index-replies-place.result in
    let count = c.index-count.result.now in
    let there = stands_within (λ v. v.items) c.args.replies.now c.args.taken.now.items c.args.client own count
    c.requires c.index-replies-place.is c.index-count.ensures in
    record {
      share = own.items;
      count = count;
      share_is = slice_get-map (λ v. v.items) c.args.replies.now place ∙ ap (option_map (λ v. v.items)) there.0;
      count_is = slice_get_read c.args.taken.now.items _ place count refl
          (slice_get_within c.args.taken.now.items place c.requires.count c.requires.count_is) c.index-count.ensures;
      next_is = slice_get_read own.items _ count c.index-reply.result.now refl there.1 c.index-reply.ensures;
      new_is = refl;
    }
