use Rattle.std.proofs.Common.{◌∙◌, ap, List, ℕ, Ok}
use Rattle.serde_json.specs.Data.{object, string, Members}
use Rattle.serde_json.specs.View.{members_view, view}
use Rattle.serde_json.proofs.Views.{view-Object}
use Rattle.dali_report.proofs.LineLemmas.{put_made}
use Rattle.dali_report.proofs.line.LastReply.value.Goals as goal

pub returns : goal.returns
returns c =
    let unit =
    put_made (λ members. members_view members.entries) view (Ok c.new.result) (Ok c.byte_or_null.result)
    c.with_made-members.result _ _ _ (ap members_view c.new.ensures.empty)
    c.byte_or_null.ensures c.with_made-members.ensures in
    let run =
    put_made (λ members. members_view members.entries) view c.with_made-members.result (Ok c.from.result)
    c.with_made-members-2.result _ _ _ unit
    c.from.ensures c.with_made-members-2.ensures in
    let reply =
    put_made (λ members. members_view members.entries) view c.with_made-members-2.result (Ok c.from-2.result)
    c.with_made-members-3.result _ _ _ run
    (c.from-2.ensures ∙ ap (λ (t : List ℕ). string t) c.in_ok-reply.ensures.ok) c.with_made-members-3.ensures in
    let order =
    put_made (λ members. members_view members.entries) view c.with_made-members-3.result (Ok c.from-3.result)
    c.with_made-members-4.result _ _ _ reply
    c.from-3.ensures c.with_made-members-4.ensures in
    let name =
    put_made (λ members. members_view members.entries) view c.with_made-members-4.result c.name.result
    c.with_made-members-5.result _ _ _ order
    c.name.ensures c.with_made-members-5.ensures in
    let moment =
    put_made (λ members. members_view members.entries) view c.with_made-members-5.result (Ok c.number_or_null.result)
    c.with_made-members-6.result _ _ _ name
    c.number_or_null.ensures c.with_made-members-6.ensures in
    let misses =
    put_made (λ members. members_view members.entries) view c.with_made-members-6.result (Ok c.from-4.result)
    c.with_made-members-7.result _ _ _ moment
    c.from-4.ensures c.with_made-members-7.ensures in
    let frames =
    put_made (λ members. members_view members.entries) view c.with_made-members-7.result (Ok c.from-5.result)
    c.with_made-members-8.result _ _ _ misses
    c.from-5.ensures c.with_made-members-8.ensures in
    let ended =
    put_made (λ members. members_view members.entries) view c.with_made-members-8.result c.ended.result
    c.with_made-members-9.result _ _ _ frames
    c.ended.ensures c.with_made-members-9.ensures in
    let code =
    put_made (λ members. members_view members.entries) view c.with_made-members-9.result (Ok c.code.result)
    c.with_made-members-10.result _ _ _ ended
    c.code.ensures c.with_made-members-10.ensures in
    let cause =
    put_made (λ members. members_view members.entries) view c.with_made-members-10.result c.cause_value.result
    (Ok c.in_ok-members.members) _ _ _ code
    c.cause_value.ensures c.in_ok-members.ensures in
    view-Object c.in_ok-members.members ∙ ap (λ (m : Members). object m) cause
