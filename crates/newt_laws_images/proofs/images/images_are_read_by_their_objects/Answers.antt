use Rattle.newt_laws_images.proofs.Gathering.{image-by-objects, image-no-pages, image-no-table}
use Rattle.newt_laws_images.proofs.images.images_are_read_by_their_objects.Goals as goal

pub returns-clause-objects : goal.returns-clause-objects
returns-clause-objects c = image-by-objects

pub returns-clause-no_pages : goal.returns-clause-no_pages
returns-clause-no_pages c = image-no-pages

pub returns-clause-no_table : goal.returns-clause-no_table
returns-clause-no_table c = image-no-table
