use Rattle.wtf8.proofs.lemmas.strings.StringLaws.{equal_buffers, equal_buffer_and_view, equal_views, forms_of_buffers, forms_of_views}
use Rattle.wtf8.proofs.laws.law_equal_strings.Goals as goal

pub returns : goal.returns
returns c = record {
  buffers = equal_buffers;
  buffer_and_view = equal_buffer_and_view;
  views = equal_views;
  form_of_buffer = forms_of_buffers;
  form_of_view = forms_of_views;
}
